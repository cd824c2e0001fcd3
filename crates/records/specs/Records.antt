-- What the calls for records answer, and what they leave in the lent slice: "a lent slice of records, one record to a range".
use Rattle.std.specs.Prelude.{ℕ, ◌≡◌, List, leb, length, Ok, Err}
use Rattle.paths.specs.Lists.{front}
use Rattle.answers.specs.Choice.{pick}
use Rattle.answers.specs.declared.answer.Refusal.TheVariants.{NoRoom}
use Rattle.ranges.specs.declared.kinds.PathRange.{PathRange}
use Rattle.ranges.specs.Calls.{Answered, refused, listed}
use Rattle.answers.specs.Answers.{Listed}

-- "A query tests 1, then 4; 9 and 10 come as the climb meets them; 2 for lists is last"
abbrev pub record_answer : Answered → ℕ → Listed
record_answer (refused x) room = Err x
record_answer (listed l) room = pick (leb (length l) room) (Ok (length l)) (Err NoRoom)

-- where the slice is too short nothing is written; "Entries of a list past its count are unchanged"
abbrev pub record_list : Answered → List PathRange → List PathRange
record_list (refused x) lent = lent
record_list (listed l) lent = pick (leb (length l) (length lent)) (front l lent) lent

-- what a call answers and leaves in the slice that it was lent
pub record RecordedAs (a : Answered) (lent left : List PathRange) (r : Listed) : Type 0 where
  pub answer : r ≡ record_answer a (length lent)
  pub list : left ≡ record_list a lent
