-- Laws of counts: how often a number stands in a list.
use Prim.Native.Nat.{ℕ, ◌+◌, ◌-◌, ◌≤◌}
use native.Mathlib.Omega.{arith}
use mathlib.Core.Path.{◌≡◌, refl, ap, ◌∙◌}
use mathlib.Core.List.{List, [], ◌∷◌, ◌++◌}
use lib.Dec.{eqb}
use lib.ListN.{length, take}
use lib.Seq.{slice, length-slice, get_or-drop, get_or-take}
use Rattle.sums.specs.Sum.{at, tally, sum, count}
use Rattle.sums.proofs.Sums.{sum_ext, sum-front}

-- a count in two lists joined
pub count-append : (v : ℕ) (l m : List ℕ) → count v (l ++ m) ≡ count v l + count v m
count-append v [] m = omega arith
count-append v (x ∷ l) m = omega (arith, count-append v l m)

-- a count goes through the places of the list
pub count_places : (v : ℕ) (l : List ℕ) → count v l ≡ sum (length l) (λ i. tally (eqb (at l i) v))
count_places v [] = refl
count_places v (x ∷ l) =
    omega (arith, count_places v l, sum-front (length l) (λ i. tally (eqb (at (x ∷ l) i) v)))

-- and the count in a part, through the places of the part
pub count-slice : (v a b : ℕ) (l : List ℕ) → a ≤ b → b ≤ length l → count v (slice a b l) ≡ sum (b - a) (λ i. tally (eqb (at l (a + i)) v))
count-slice v a b l h k =
    count_places v (slice a b l)
    ∙ ap (λ (m : ℕ). sum m (λ i. tally (eqb (at (slice a b l) i) v))) (length-slice a b l k)
    ∙ sum_ext (b - a) (λ i. tally (eqb (at (slice a b l) i) v)) (λ i. tally (eqb (at l (a + i)) v))
    (λ i c. ap (λ (x : ℕ). tally (eqb x v)) (get_or-drop a (take b l) i 0 ∙ get_or-take b l (a + i) 0 (omega arith)))
