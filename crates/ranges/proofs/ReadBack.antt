-- Reading back what was written into a plain list gives the ranges.
use Prim.Native.Nat.{ℕ, zero, suc, ◌+◌, ◌*◌, ◌≤◌, ◌<◌}
use native.Mathlib.Omega.{arith}
use mathlib.Core.Path.{◌≡◌, refl, ap, ap₂, ◌∙◌}
use mathlib.Core.List.{List, [], ◌∷◌, ◌++◌}
use lib.ListN.{length}
use lib.Seq.{get_or-append-add}
use Rattle.sums.specs.Sum.{at}
use Rattle.ranges.specs.declared.kinds.Direction.{Direction}
use Rattle.ranges.specs.declared.kinds.Direction.TheVariants.{Forward, Reversed}
use Rattle.ranges.specs.declared.kinds.PathRange.{PathRange}
use Rattle.ranges.specs.Flat.{stride, direction_code, direction_of, numbers_of, flat, range_at, ranges_in}

-- Directions.

-- 0 is Forward
pub direction_forward : (code : ℕ) → code < 1 → Forward ≡ direction_of code
direction_forward zero h = refl
direction_forward (suc k) h = absurd (omega arith)

-- any other number is Reversed
pub direction_reversed : (code : ℕ) → 1 ≤ code → Reversed ≡ direction_of code
direction_reversed zero h = absurd (omega arith)
direction_reversed (suc k) h = refl

-- a direction is told by its number
direction_back : (d : Direction) → direction_of (direction_code d) ≡ d
direction_back Forward = refl
direction_back Reversed = refl

-- One range.

-- a range is told by its numbers
range_front : (r : PathRange) (w : List ℕ) → range_at (numbers_of r ++ w) 0 ≡ r
unfolding range_at
range_front r w = λ j. record { start = r.start; end = r.end; direction = direction_back r.direction j }

-- the numbers behind those of a range
at_behind : (r : PathRange) (w : List ℕ) (i k : ℕ) → i ≡ stride + k → at (numbers_of r ++ w) i ≡ at w k
at_behind r w i k e = ap (at (numbers_of r ++ w)) e ∙ get_or-append-add (numbers_of r) w k 0

-- the slots behind the first are those of the list without it
range_behind : (r : PathRange) (w : List ℕ) (i : ℕ) → range_at (numbers_of r ++ w) (suc i) ≡ range_at w i
unfolding range_at
range_behind r w i = λ j. record {
  start = at_behind r w (stride * suc i) (stride * i) (omega arith) j;
  end = at_behind r w (stride * suc i + 1) (stride * i + 1) (omega arith) j;
  direction = direction_of (at_behind r w (stride * suc i + 2) (stride * i + 2) (omega arith) j);
}

-- a range stands in its slot, behind those before it
pub range_stands : (pre : List PathRange) (r : PathRange) (w : List ℕ) → range_at (flat pre ++ (numbers_of r ++ w)) (length pre) ≡ r
range_stands [] r w = range_front r w
range_stands (q ∷ pre) r w = range_behind q (flat pre ++ (numbers_of r ++ w)) (length pre) ∙ range_stands pre r w

-- All ranges.

-- the first range of a list comes first
ranges-front : (r : PathRange) (k : ℕ) (w : List ℕ) → ranges_in (suc k) (numbers_of r ++ w) ≡ r ∷ ranges_in k w
ranges-front r zero w = ap (λ (x : PathRange). x ∷ []) (range_front r w)
ranges-front r (suc k) w = ap₂ (λ (l : List PathRange) (x : PathRange). l ++ (x ∷ [])) (ranges-front r k w) (range_behind r w k)

-- all ranges are read back, whatever stands behind them
pub flat_ranges : (l : List PathRange) (rest : List ℕ) → ranges_in (length l) (flat l ++ rest) ≡ l
flat_ranges [] rest = refl
flat_ranges (r ∷ l) rest = ranges-front r (length l) (flat l ++ rest) ∙ ap (λ (m : List PathRange). r ∷ m) (flat_ranges l rest)
