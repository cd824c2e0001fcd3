-- Where a pass refuses, the lists are not symmetric.
use Prim.Native.Nat.{ℕ, ◌+◌, ◌-◌, ◌≤◌, ◌<◌, min}
use native.Mathlib.Omega.{arith}
use mathlib.Core.Path.{◌≡◌, sym, ap, ◌∙◌}
use Rattle.sums.specs.Sum.{sum}
use Rattle.sums.proofs.Sums.{sum_ext, sum_tight}
use Rattle.symmetry.specs.Inner.{part, Turns, Below, Ascends, ends, Turning}
use Rattle.symmetry.proofs.Parts.{part_split, part_mono, part-all, part-some, part_has}
use Rattle.symmetry.proofs.Lists.{starts_rise}
use Rattle.symmetry.proofs.Passes.{InHand}

-- the entry in hand is not yet read
pub still_unread : {n : ℕ} {o X : ℕ → ℕ} {u e : ℕ} → InHand n o X u e → part X (o u) (min e (o (u + 1))) (X e) < part X (o u) (o (u + 1)) (X e)
still_unread {n} {o} {X} {u} {e} k =
    let z : min e (o (u + 1)) ≡ e = omega (arith, k.till) in
    omega (
      arith,
      ap (λ (b : ℕ). part X (o u) b (X e)) z,
      part_split X (o u) e (o (u + 1)) (X e) k.from (omega (arith, k.till)),
      part_has X e (o (u + 1)) e (omega arith) k.till,
    )

-- if the list of the entry in hand is full, that entry is a target more often than its list is long
pub full_refutes : {n : ℕ} {o X T c : ℕ → ℕ} {u e : ℕ} → Turning n o X T c u e → InHand n o X u e → Below n o (ends o) X → o (X e + 1) ≤ c (X e)
    → Turns n o X X → ⊥
full_refutes {n} {o} {X} {T} {c} {u} {e} i k bound full even = omega (arith, tight, i.counts u x k.in_range k.entry, still_unread k)
  where
    x : ℕ
    x = X e

    there : sum n (λ v. part X (o v) (o (v + 1)) x) ≡ o (x + 1) - o x
    there =
        sum_ext n (λ v. part X (o v) (o (v + 1)) x) (λ v. part X (o x) (o (x + 1)) v) (λ v hv. sym (even v x hv k.entry))
        ∙ part-all X n (o x) (o (x + 1)) (λ p. bound x p k.entry)

    here : sum n (λ v. part T (o x) (c x) v) ≡ c x - o x
    here = part-all T n (o x) (c x) (λ p. i.below x p k.entry)

    tight : part T (o x) (c x) u ≡ part X (o u) (o (u + 1)) x
    tight =
        sum_tight n (λ v. part T (o x) (c x) v) (λ v. part X (o v) (o (v + 1)) x)
        (λ v hv. omega (arith, i.counts v x hv k.entry, part_mono X (o v) (min e (o (v + 1))) (o (v + 1)) x (omega arith)))
        (omega (arith, there, here, full)) u k.in_range

-- in ascending symmetric lists u is what stands at the cursor of the entry in hand
pub must_stand : {n : ℕ} {o T c : ℕ → ℕ} {u e : ℕ} → Turning n o T T c u e → InHand n o T u e → Ascends n o (ends o) T → Turns n o T T
    → (c (T e) < o (T e + 1)) × (T (c (T e)) ≡ u)
must_stand {n} {o} {T} {c} {u} {e} i k up even = (omega (arith, place), omega (arith, no_later, no_earlier))
  where
    x : ℕ
    x = T e

    left : 0 < part T (c x) (o (x + 1)) u
    left =
        omega (
          arith,
          i.counts u x k.in_range k.entry,
          still_unread k,
          even u x k.in_range k.entry,
          part_split T (o x) (c x) (o (x + 1)) u (i.begun x k.entry) (i.within x k.entry),
        )

    place : (p : ℕ) × (c x ≤ p) × (p < o (x + 1)) × (T p ≡ u)
    place = part-some T (c x) (o (x + 1)) u left

    no_later : T (c x) ≤ u
    no_later = omega (arith, place.3, up x (c x) place.0 k.entry (i.begun x k.entry) place.1 place.2)

    no_earlier : T (c x) < u → ⊥
    no_earlier l =
        let v : ℕ = T (c x) in
        let before = starts_rise k.starts (v + 1) u (omega arith) (omega (arith, k.in_range)) in
        let read : min e (o (v + 1)) ≡ o (v + 1) = omega (arith, k.from) in
        omega (
          arith,
          i.counts v x (omega (arith, k.in_range)) k.entry,
          ap (λ (b : ℕ). part T (o v) b x) read,
          even v x (omega (arith, k.in_range)) k.entry,
          part_split T (o x) (c x) (o (x + 1)) v (i.begun x k.entry) (i.within x k.entry),
          part_has T (c x) (o (x + 1)) (c x) (omega arith) (omega (arith, place)),
        )
