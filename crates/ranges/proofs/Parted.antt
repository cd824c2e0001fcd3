-- Laws of rule parts: empty where the range names none, and else the part of the one store or of the other.
use Prim.Native.Nat.{ℕ, ◌-◌, ◌≤◌, ◌<◌}
use native.Mathlib.Omega.{arith}
use mathlib.Core.Path.{◌≡◌, sym, ap, ◌∙◌}
use mathlib.Core.Bool.{Bool, true, false}
use mathlib.Core.List.{List, []}
use lib.Dec.{eqb, leb, ltb}
use lib.ListN.{length, take, drop}
use borrow.Author.Tests.{ltb-true, leb-true, eqb-true}
use Rattle.answers.specs.Choice.{both}
use Rattle.answers.proofs.Choices.{both_true}
use Rattle.ranges.specs.declared.kinds.Direction.{Direction}
use Rattle.ranges.specs.declared.kinds.Direction.TheVariants.{Forward, Reversed}
use Rattle.answers.specs.Limits.{max_store}
use Rattle.ranges.specs.Parts.{named?, part_in, rule_part}

-- a range of two stores of m and k entries
pub record Named (m k l r : ℕ) : Type 0 where
  pub even : k ≡ m
  pub some : l < r
  pub within : r ≤ m

-- of five tests that are all passed, the last three
last_three : (a b c d e : Bool) → both a (both b (both c (both d e))) ≡ true → (c ≡ true) × (d ≡ true) × (e ≡ true)
last_three a b c d e t =
    let behind-first = (both_true a (both b (both c (both d e))) t).1 in
    let behind-second = (both_true b (both c (both d e)) behind-first).1 in
    let third = both_true c (both d e) behind-second in
    let rest = both_true d e third.1 in
    (third.0, rest.0, rest.1)

pub named_means : (m k l r : ℕ) → named? m k l r ≡ true → Named m k l r
named_means m k l r e =
    let t = last_three (leb 1 m) (leb m max_store) (eqb k m) (ltb l r) (leb r m) e in record {
      even = eqb-true k m t.0;
      some = ltb-true l r t.1;
      within = leb-true r m t.2;
    }

module _ (first second : List ℕ) (l r : ℕ) (d : Direction) where
  pub part_of_none : named? (length first) (length second) l r ≡ false → rule_part first second l r d ≡ []
  unfolding rule_part
  part_of_none e = rw (rule_part, e)

  pub part_within : named? (length first) (length second) l r ≡ true → rule_part first second l r d ≡ part_in d first second l r
  unfolding rule_part
  part_within e = rw (rule_part, e)

  pub part_forward : named? (length first) (length second) l r ≡ true → d ≡ Forward → take (r - l) (drop l first) ≡ rule_part first second l r d
  part_forward e f = sym (part_within e ∙ ap (λ (x : Direction). part_in x first second l r) f)

  pub part_reversed : named? (length first) (length second) l r ≡ true → d ≡ Reversed
      → take (length first - l - (length first - r)) (drop (length first - r) second) ≡ rule_part first second l r d
  part_reversed e f =
      let n = named_means (length first) (length second) l r e in
      let a = n.some in
      let b = n.within in
      let k : length first - l - (length first - r) ≡ r - l = omega arith in
      ap (λ (x : ℕ). take x (drop (length first - r) second)) k
      ∙ sym (part_within e ∙ ap (λ (x : Direction). part_in x first second l r) f)
