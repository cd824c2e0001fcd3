-- Copying the slots of a plain list into a slice puts its ranges there.
use Prim.Native.Nat.{ℕ, suc, ◌≤◌}
use native.Mathlib.Omega.{arith}
use mathlib.Core.Path.{◌≡◌, refl, sym, ap, ◌∙◌}
use mathlib.Core.List.{List, [], ◌∷◌, ◌++◌}
use lib.ListN.{length, set, drop}
use Rattle.ranges.specs.declared.kinds.PathRange.{PathRange}
use Rattle.ranges.specs.Flat.{numbers_of, flat}
use Rattle.ranges.proofs.ReadBack.{range_stands}
use Rattle.records.specs.Inner.{copied}

-- a store behind a front
set_behind : (pre : List PathRange) (x y : PathRange) (rest : List PathRange) → set (pre ++ (x ∷ rest)) (length pre) y ≡ pre ++ (y ∷ rest)
set_behind [] x y rest = refl
set_behind (q ∷ pre) x y rest = ap (λ (l : List PathRange). q ∷ l) (set_behind pre x y rest)

-- a front and a range behind it are a longer front
flat-front : (pre : List PathRange) (r : PathRange) (w : List ℕ) → flat (pre ++ (r ∷ [])) ++ w ≡ flat pre ++ (numbers_of r ++ w)
flat-front [] r w = refl
flat-front (q ∷ pre) r w = ap (λ (l : List ℕ). numbers_of q ++ l) (flat-front pre r w)

-- a range between a front and the rest stands behind the one or before the other
front_behind : (pre : List PathRange) (r : PathRange) (l : List PathRange) → (pre ++ (r ∷ [])) ++ l ≡ pre ++ (r ∷ l)
front_behind [] r l = refl
front_behind (q ∷ pre) r l = ap (λ (m : List PathRange). q ∷ m) (front_behind pre r l)

-- a front with a range behind it is longer by one
front_length : (pre : List PathRange) (r : PathRange) → length (pre ++ (r ∷ [])) ≡ suc (length pre)
front_length [] r = refl
front_length (q ∷ pre) r = ap suc (front_length pre r)

-- with a front written, the ranges that follow it are copied behind it
copied_behind : (pre l : List PathRange) (w : List ℕ) (rest : List PathRange) → length l ≤ length rest
    → copied (flat pre ++ (flat l ++ w)) (length pre) (length l) (pre ++ rest) ≡ pre ++ (l ++ drop (length l) rest)
copied_behind pre [] w rest h = refl
copied_behind pre (r ∷ l) w [] h = absurd (omega arith)
copied_behind pre (r ∷ l) w (x ∷ rest) h =
    ap (copied (flat pre ++ (flat (r ∷ l) ++ w)) (suc (length pre)) (length l))
    (ap (set (pre ++ (x ∷ rest)) (length pre)) (range_stands pre r (flat l ++ w)) ∙ set_behind pre x r rest ∙ sym (front_behind pre r rest))
    ∙ sym (λ j. copied (flat-front pre r (flat l ++ w) j) (front_length pre r j) (length l) ((pre ++ (r ∷ [])) ++ rest))
    ∙ copied_behind (pre ++ (r ∷ [])) l w rest (omega arith)
    ∙ front_behind pre r (l ++ drop (length l) rest)

-- all ranges are copied from the front on
pub copied_all : (l : List PathRange) (w : List ℕ) (lent : List PathRange) → length l ≤ length lent → copied (flat l ++ w) 0 (length l) lent ≡ l ++ drop (length l) lent
copied_all l w lent h = copied_behind [] l w lent h
