-- Tests of answers and ranges: whether two are the same.
use Rattle.std.specs.Prelude.{Bool, true, false, List, eqb, Ok, Err}
use Rattle.answers.specs.Answers.{refusal_code, Answer}
use Rattle.answers.specs.Choice.{both}
use Rattle.ranges.specs.Calls.{Answered, refused, listed}
use Rattle.ranges.specs.declared.kinds.Direction.{Direction}
use Rattle.ranges.specs.declared.kinds.Direction.TheVariants.{Forward, Reversed}
use Rattle.ranges.specs.declared.kinds.PathRange.{PathRange}
use Rattle.pcases.specs.Checks.{same_list}

-- refusals are told apart by their codes
abbrev pub same_answer? : Answer → Answer → Bool
same_answer? (Ok x) (Ok y) = eqb x y
same_answer? (Ok x) (Err s) = false
same_answer? (Err r) (Ok y) = false
same_answer? (Err r) (Err s) = eqb (refusal_code r) (refusal_code s)

abbrev pub same_direction : Direction → Direction → Bool
same_direction Forward Forward = true
same_direction Forward Reversed = false
same_direction Reversed Forward = false
same_direction Reversed Reversed = true

abbrev pub same_range : PathRange → PathRange → Bool
same_range a b = both (eqb a.start b.start) (both (eqb a.end b.end) (same_direction a.direction b.direction))

-- these ranges are listed
abbrev pub listed? : Answered → List PathRange → Bool
listed? (refused r) l = false
listed? (listed m) l = same_list same_range m l
