-- Where a rule part stands in its store.
use Prim.Native.Nat.{ℕ, zero, suc, ◌+◌, ◌-◌, ◌≤◌, ◌<◌}
use native.Mathlib.Omega.{arith}
use mathlib.Core.Path.{◌≡◌, refl, sym, ap, subst, ◌∙◌}
use mathlib.Core.Bool.{true, false}
use mathlib.Core.List.{List, [], ◌∷◌}
use lib.ListN.{length, take, drop, length-drop}
use lib.Seq.{length-take-le}
use Rattle.ranges.specs.Parts.{named?, rule_part}
use Rattle.ranges.specs.declared.kinds.Direction.TheVariants.{Forward, Reversed}
use Rattle.ranges.proofs.Parted.{named_means, part_of_none, part_within}
use Rattle.relaypath.specs.Listing.{place_of, PartAt, PartNamed}

-- a part with entries begins at its start
place-some : (part : List ℕ) (start : ℕ) → 0 < length part → start ≡ place_of part start
place-some [] start h = absurd (omega arith)
place-some (x ∷ part) start h = refl

-- entries of a store are a part of it
entries_at : (store part : List ℕ) (from count : ℕ) → 0 < count → from + count ≤ length store → part ≡ take count (drop from store)
    → PartAt part store from from count
entries_at store part from count some fits e =
    let d = length-drop from store in
    let long = length-take-le count (drop from store) (omega arith) in
    let same = ap length e ∙ long in record {
      entries = sym e;
      long = sym same;
      begins = place-some part from (omega arith);
    }

-- no entries are the empty part
none_at : (part store : List ℕ) (start : ℕ) → part ≡ [] → PartAt part store start 0 0
none_at part store start e = record {
  entries = sym e;
  long = sym (ap length e);
  begins = sym (ap (λ (p : List ℕ). place_of p start) e);
}

module _ (first second : List ℕ) (l r : ℕ) where
  pub named_forward : (d : ℕ) → named? (length first) (length second) l r ≡ true → d ≡ 0 → PartNamed first second l r d l (r - l)
  named_forward d e z =
      let n = named_means (length first) (length second) l r e in
      let a = n.some in
      let b = n.within in
      subst (λ (x : ℕ). PartNamed first second l r x l (r - l)) (sym z)
      (entries_at first (rule_part first second l r Forward) l (r - l) (omega arith) (omega arith) (part_within first second l r Forward e))

  pub named_reversed : (d : ℕ) → named? (length first) (length second) l r ≡ true → d ≡ 1
      → PartNamed first second l r d (length first - r) (r - l)
  named_reversed d e z =
      let n = named_means (length first) (length second) l r e in
      let a = n.some in
      let b = n.within in
      let s = n.even in
      subst (λ (x : ℕ). PartNamed first second l r x (length first - r) (r - l)) (sym z)
      (entries_at second (rule_part first second l r Reversed) (length first - r) (r - l) (omega arith) (omega arith)
      (part_within first second l r Reversed e))

  pub named_none : (d : ℕ) → named? (length first) (length second) l r ≡ false → PartNamed first second l r d 0 0
  named_none zero e = none_at (rule_part first second l r Forward) first l (part_of_none first second l r Forward e)
  named_none (suc zero) e = none_at (rule_part first second l r Reversed) second (length first - r) (part_of_none first second l r Reversed e)
  named_none (suc (suc d)) e = none_at [] [] 0 refl

  pub direction_none : (d : ℕ) → 1 < d → PartNamed first second l r d 0 0
  direction_none zero h = absurd (omega arith)
  direction_none (suc zero) h = absurd (omega arith)
  direction_none (suc (suc d)) h = none_at [] [] 0 refl
