-- Laws of writing ranges into the slots of a list: one by one from the front and from the back, and all of them.
use Prim.Native.Nat.{ℕ, suc, ◌+◌, ◌*◌, ◌≤◌}
use native.Mathlib.Omega.{arith}
use native.Mathlib.Nat.{add-zero}
use mathlib.Core.Path.{◌≡◌, refl, ap, ◌∙◌}
use mathlib.Core.List.{List, [], ◌∷◌, ◌++◌}
use lib.ListN.{length, set, drop}
use lib.Seq.{sets, set_comm, sets-eq, length-sets}
use Rattle.ranges.specs.declared.kinds.PathRange.{PathRange}
use Rattle.ranges.specs.Flat.{stride, direction_code, numbers_of, flat}
use Rattle.ranges.specs.Inner.{written}

-- Runs of stores.

set_behind : (w : List ℕ) (i j x : ℕ) (a : List ℕ) → i + length a ≤ j → set (sets w i a) j x ≡ sets (set w j x) i a
set_behind w i j x [] h = refl
set_behind w i j x (y ∷ a) h =
    set_behind (set w i y) (suc i) j x a (omega arith)
    ∙ ap (λ (m : List ℕ). sets m (suc i) a) (set_comm w i j y x (λ e. omega arith))

-- two runs of which one lies behind the other
sets_behind : (w : List ℕ) (i j : ℕ) (a b : List ℕ) → i + length a ≤ j → sets (sets w i a) j b ≡ sets (sets w j b) i a
sets_behind w i j a [] h = refl
sets_behind w i j a (x ∷ b) h =
    ap (λ (m : List ℕ). sets m (suc j) b) (set_behind w i j x a h) ∙ sets_behind (set w j x) i (suc j) a b (omega arith)

sets-append : (w : List ℕ) (i : ℕ) (a b : List ℕ) → sets w i (a ++ b) ≡ sets (sets w i a) (i + length a) b
sets-append w i [] b = rw add-zero
sets-append w i (x ∷ a) b =
    let e : suc i + length a ≡ i + suc (length a) = omega arith in
    sets-append (set w i x) (suc i) a b ∙ ap (λ (k : ℕ). sets (sets (set w i x) (suc i) a) k b) e

-- Ranges as numbers.

flat_append : (l m : List PathRange) → flat (l ++ m) ≡ flat l ++ flat m
flat_append [] m = refl
flat_append (r ∷ l) m = rw (flat_append l m)

pub flat-length : (l : List PathRange) → length (flat l) ≡ stride * length l
flat-length [] = refl
flat-length (r ∷ l) = let i = flat-length l in omega arith

-- Slots.

pub written-length : (w : List ℕ) (slot : ℕ) (l : List PathRange) → length (written w slot l) ≡ length w
written-length w slot l = length-sets w (stride * slot) (flat l)

-- a slot is written by three stores
pub stored : (w : List ℕ) (slot : ℕ) (r : PathRange) (code : ℕ) → code ≡ direction_code r.direction
    → set (set (set w (stride * slot) r.start) (stride * slot + 1) r.end) (stride * slot + 2) code ≡ written w slot (r ∷ [])
stored w slot r code e =
    let a : stride * slot + 1 ≡ suc (stride * slot) = omega arith in
    let b : stride * slot + 2 ≡ suc (suc (stride * slot)) = omega arith in
    rw (a, b, e)

-- the first range is written, and the others behind it
pub written-front : (w : List ℕ) (slot : ℕ) (r : PathRange) (l : List PathRange) → written w slot (r ∷ l) ≡ written (written w slot (r ∷ [])) (slot + 1) l
written-front w slot r l =
    let e : stride * slot + length (numbers_of r) ≡ stride * (slot + 1) = omega arith in
    sets-append w (stride * slot) (numbers_of r) (flat l) ∙ ap (λ (k : ℕ). sets (written w slot (r ∷ [])) k (flat l)) e

-- the last range is written first, and the others before it
pub written_back : (w : List ℕ) (slot : ℕ) (l : List PathRange) (r : PathRange)
    → written w slot (l ++ (r ∷ [])) ≡ written (written w (slot + length l) (r ∷ [])) slot l
written_back w slot l r =
    let f = flat-length l in
    let e : stride * slot + length (flat l) ≡ stride * (slot + length l) = omega arith in
    ap (sets w (stride * slot)) (flat_append l (r ∷ []))
    ∙ sets-append w (stride * slot) (flat l) (flat (r ∷ []))
    ∙ sets_behind w (stride * slot) (stride * slot + length (flat l)) (flat l) (flat (r ∷ [])) (omega arith)
    ∙ ap (λ (k : ℕ). sets (sets w k (flat (r ∷ []))) (stride * slot) (flat l)) e

-- all ranges are written from the front on
pub written_all : (w : List ℕ) (l : List PathRange) → stride * length l ≤ length w → written w 0 l ≡ flat l ++ drop (stride * length l) w
written_all w l h =
    let f = flat-length l in
    let e : 0 + length (flat l) ≡ stride * length l = omega arith in
    sets-eq (flat l) w 0 (omega arith) ∙ ap (λ (k : ℕ). flat l ++ drop k w) e
