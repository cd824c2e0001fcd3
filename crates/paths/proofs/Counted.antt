-- How often a number stands in a list says whether it stands there, whether the list repeats, and how long it is.
use Prim.Native.Nat.{ℕ, ◌<◌, ◌≤◌}
use mathlib.Core.Path.{◌≡◌, refl, sym}
use mathlib.Core.Logic.{inl, inr, ◌↔◌}
use mathlib.Core.List.{List, [], ◌∷◌}
use native.Mathlib.Omega.{arith}
use native.Mathlib.Decide.{dec_le, ℕ_discrete}
use lib.Dec.{eqb}
use lib.ListN.{length}
use Rattle.sums.specs.Sum.{tally, sum, count}
use Rattle.paths.specs.Walk.{In, Out, NoDup, Below}
use Rattle.paths.proofs.Listed.{out_of, out_not, in-below}
use Rattle.sums.proofs.Sums.{sum_add, sum_zeros, sum-pick, tally_same, tally_other}

-- what stands in a list is counted
pub in_count : (x : ℕ) (l : List ℕ) → In x l → 0 < count x l
in_count x [] h = absurd h
in_count x (y ∷ l) (inl e) = let t = tally_same y x (sym e) in omega arith
in_count x (y ∷ l) (inr h) = let i = in_count x l h in omega arith

-- what is counted stands in the list
pub count_in : (x : ℕ) (l : List ℕ) → 0 < count x l → In x l
count_in x [] h = absurd (omega arith)
count_in x (y ∷ l) h = elim (ℕ_discrete x y) [
  | yes e ↦ inl e
  | no d ↦ let t = tally_other y x (λ e. d (sym e)) in inr (count_in x l (omega arith))
]

-- a number stands in a list exactly if its count is positive
pub in_iff-count : (x : ℕ) (l : List ℕ) → In x l ↔ (0 < count x l)
in_iff-count x l = (in_count x l, count_in x l)

-- what does not stand in a list counts 0
pub count_absent : (x : ℕ) (l : List ℕ) → (In x l → ⊥) → count x l ≡ 0
count_absent x l f = elim (dec_le 1 (count x l)) [ yes p ↦ absurd (f (count_in x l p)) | no q ↦ omega arith ]

-- what counts 0 is out of the list
pub none_out : (x : ℕ) (l : List ℕ) → count x l ≡ 0 → Out x l
none_out x l h = out_of x l (λ i. let p = in_count x l i in omega arith)

-- in a list without repeats each count is at most 1
pub nodup-count : (x : ℕ) (l : List ℕ) → NoDup l → count x l ≤ 1
nodup-count x [] d = omega arith
nodup-count x (y ∷ l) d = elim (ℕ_discrete y x) [
  | yes e ↦
      let t = tally_same y x e in
      let z = count_absent x l (λ i. out_not y l d.0 (rw e i)) in
      omega arith
  | no f ↦ let t = tally_other y x f in let z = nodup-count x l d.1 in omega arith
]

-- a list in which each count is at most 1 has no repeats
pub count_nodup : (l : List ℕ) → ((x : ℕ) → count x l ≤ 1) → NoDup l
count_nodup [] h = tt
count_nodup (y ∷ l) h =
    (let t = tally_same y y refl in let z = h y in none_out y l (omega arith), count_nodup l (λ x. let z = h x in omega arith))

-- a number from n on does not stand in a list below n
pub count-above : (n x : ℕ) (l : List ℕ) → Below n l → n ≤ x → count x l ≡ 0
count-above n x l b h = count_absent x l (λ i. let p = in-below n x l b i in omega arith)

-- the counts of a list below n add up to its length
pub count-length : (n : ℕ) (l : List ℕ) → Below n l → sum n (λ v. count v l) ≡ length l
count-length n [] b = sum_zeros n
count-length n (x ∷ l) b =
    let s = sum_add n (λ v. tally (eqb x v)) (λ v. count v l) in
    let p = sum-pick n x b.0 in
    let i = count-length n l b.1 in
    omega arith
