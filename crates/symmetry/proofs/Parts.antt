-- Laws of `part`: how often a number stands among the entries from a up to b.
use Prim.Native.Nat.{ℕ, ◌+◌, ◌-◌, ◌≤◌, ◌<◌}
use native.Mathlib.Omega.{arith}
use native.Mathlib.Decide.{dec_le}
use mathlib.Core.Path.{◌≡◌, refl, ap}
use mathlib.Core.Logic.{by_cases}
use lib.Dec.{eqb}
use borrow.Author.Tests.{eqb-true}
use Rattle.sums.specs.Sum.{tally, sum}
use Rattle.sums.proofs.Sums.{tally_same, sum_ext, sum_split}
use Rattle.sums.proofs.Pigeon.{hits-all, some_passes}
use Rattle.symmetry.specs.Inner.{part}

-- nothing stands in an empty part
pub part_empty : (X : ℕ → ℕ) (a b v : ℕ) → b ≤ a → part X a b v ≡ 0
unfolding part
part_empty X a b v h =
    let e : b - a ≡ 0 = omega arith in
    ap (λ (k : ℕ). sum k (λ i. tally (eqb (X (a + i)) v))) e

-- equal entries, equal counts
pub part_ext : (X Y : ℕ → ℕ) (a b v : ℕ) → ((p : ℕ) → a ≤ p → p < b → X p ≡ Y p) → part X a b v ≡ part Y a b v
unfolding part
part_ext X Y a b v h =
    sum_ext (b - a) (λ i. tally (eqb (X (a + i)) v)) (λ i. tally (eqb (Y (a + i)) v))
    (λ i c. ap (λ (x : ℕ). tally (eqb x v)) (h (a + i) (omega arith) (omega arith)))

-- a part in two
pub part_split : (X : ℕ → ℕ) (a b c v : ℕ) → a ≤ b → b ≤ c → part X a c v ≡ part X a b v + part X b c v
unfolding part
part_split X a b c v h k =
    let t : ℕ → ℕ → ℕ = λ m i. tally (eqb (X (m + i)) v) in
    let e : c - a ≡ (b - a) + (c - b) = omega arith in
    omega (
      arith,
      ap (λ (m : ℕ). sum m (t a)) e,
      sum_split (b - a) (c - b) (t a),
      sum_ext (c - b) (λ i. t a (b - a + i)) (t b) (λ i d. ap (λ (p : ℕ). tally (eqb (X p) v)) (omega arith)),
    )

-- one entry
pub part-one : (X : ℕ → ℕ) (a v : ℕ) → part X a (a + 1) v ≡ tally (eqb (X a) v)
unfolding part
part-one X a v =
    let e : a + 1 - a ≡ 1 = omega arith in
    let z : a + 0 ≡ a = omega arith in
    omega (
      arith,
      ap (λ (k : ℕ). sum k (λ i. tally (eqb (X (a + i)) v))) e,
      ap (λ (p : ℕ). tally (eqb (X p) v)) z,
    )

-- one entry more
pub part_more : (X : ℕ → ℕ) (a b v : ℕ) → a ≤ b → part X a (b + 1) v ≡ part X a b v + tally (eqb (X b) v)
part_more X a b v h = omega (arith, part_split X a b (b + 1) v h (omega arith), part-one X b v)

-- a longer part counts no less
pub part_mono : (X : ℕ → ℕ) (a b c v : ℕ) → b ≤ c → part X a b v ≤ part X a c v
part_mono X a b c v h =
    by_cases (dec_le a b) (λ l. omega (arith, part_split X a b c v l h)) (λ l. omega (arith, part_empty X a b v (omega arith)))

-- entries below n are counted once each
pub part-all : (X : ℕ → ℕ) (n a b : ℕ) → ((p : ℕ) → a ≤ p → p < b → X p < n) → sum n (λ v. part X a b v) ≡ b - a
unfolding part
part-all X n a b h = hits-all (b - a) n (λ i. X (a + i)) (λ i c. h (a + i) (omega arith) (omega arith))

-- what is counted stands somewhere
pub part-some : (X : ℕ → ℕ) (a b v : ℕ) → 0 < part X a b v → (p : ℕ) × (a ≤ p) × (p < b) × (X p ≡ v)
unfolding part
part-some X a b v h =
    let r = some_passes (b - a) (λ i. eqb (X (a + i)) v) h in
    (a + r.0, omega arith, omega arith, eqb-true (X (a + r.0)) v r.2)

-- and what stands somewhere is counted
pub part_has : (X : ℕ → ℕ) (a b p : ℕ) → a ≤ p → p < b → 0 < part X a b (X p)
part_has X a b p h k =
    omega (
      arith,
      part_split X a p b (X p) h (omega arith),
      part_split X p (p + 1) b (X p) (omega arith) (omega arith),
      part-one X p (X p),
      tally_same (X p) (X p) refl,
    )
