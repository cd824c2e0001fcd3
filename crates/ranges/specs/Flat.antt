-- Ranges in a plain list: the numbers that a range is there, and the range that numbers are.
use Rattle.std.specs.Prelude.{ℕ, zero, suc, ◌+◌, ◌*◌, List, [], ◌∷◌, ◌++◌, length, drop}
use Rattle.sums.specs.Sum.{at}
use Rattle.ranges.specs.declared.kinds.Direction.{Direction}
use Rattle.ranges.specs.declared.kinds.Direction.TheVariants.{Forward, Reversed}
use Rattle.ranges.specs.declared.kinds.PathRange.{PathRange}

-- how many numbers a range is
abbrev pub stride : ℕ
stride = 3

-- the number of a direction
abbrev pub direction_code : Direction → ℕ
direction_code Forward = 0
direction_code Reversed = 1

-- the direction of a number: 0 is Forward, any other Reversed
abbrev pub direction_of : ℕ → Direction
direction_of zero = Forward
direction_of (suc k) = Reversed

-- a range is its start, its end and the number of its direction
abbrev pub numbers_of : PathRange → List ℕ
numbers_of r = r.start ∷ r.end ∷ direction_code r.direction ∷ []

abbrev pub flat : List PathRange → List ℕ
flat [] = []
flat (r ∷ l) = numbers_of r ++ flat l

-- the ranges at the front of a lent list, whose entries past them are unchanged
abbrev pub flat_front : List PathRange → List ℕ → List ℕ
flat_front l lent = flat l ++ drop (stride * length l) lent

-- the range in slot i of a plain list
unfoldable pub range_at : List ℕ → ℕ → PathRange
range_at w i = record { start = at w (stride * i); end = at w (stride * i + 1); direction = direction_of (at w (stride * i + 2)) }

-- the first k ranges of a plain list
abbrev pub ranges_in : ℕ → List ℕ → List PathRange
ranges_in zero w = []
ranges_in (suc k) w = ranges_in k w ++ (range_at w k ∷ [])
