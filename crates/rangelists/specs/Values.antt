-- The ranges of a path by value: what a call answers whose list has room for every path, and the array that it hands back.
use Rattle.std.specs.Prelude.{ℕ, ◌*◌, ◌≤◌, ◌≡◌, List, length, replicate, Result, Ok, Err}
use Rattle.answers.specs.Limits.{most_ranges}
use Rattle.answers.specs.declared.answer.Refusal.{Refusal}
use Rattle.rangelists.specs.declared.values.PathRanges.{PathRanges}
use Rattle.ranges.specs.Flat.{stride, flat_front}
use Rattle.ranges.specs.Calls.{Answered, refused, listed}

-- the array before anything is written
abbrev pub blank : List ℕ
blank = replicate (stride * most_ranges) 0

-- the refusal that comes before the test of room, or how many ranges there are, and the ranges from the front on
abbrev pub value_of : Answered → Result PathRanges Refusal
value_of (refused x) = Err x
value_of (listed l) = Ok (record { count = length l; numbers = flat_front l blank })

-- what a call hands back; the ranges that it counts are within the array
pub record ByValue (a : Answered) (r : Result PathRanges Refusal) : Type 0 where
  pub is : r ≡ value_of a
  pub few : (p : PathRanges) → r ≡ Ok p → p.count ≤ most_ranges
