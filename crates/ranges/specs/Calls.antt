-- What the calls for ranges answer, and what they leave in the lent list.
use Rattle.std.specs.Prelude.{ℕ, ◌+◌, ◌*◌, ◌≡◌, List, [], ◌∷◌, leb, length, Ok, Err}
use Rattle.answers.specs.Limits.{max_vertices}
use Rattle.numbering.specs.Log.{log2}
use Rattle.tables.specs.Tables.{Six}
use Rattle.answers.specs.Choice.{pick, both}
use Rattle.climb.specs.Asked.{size_of, asked}
use Rattle.answers.specs.declared.answer.Refusal.{Refusal}
use Rattle.answers.specs.declared.answer.Refusal.TheVariants.{BadSize, NoRoom, BadTable}
use Rattle.ranges.specs.declared.kinds.PathRange.{PathRange}
use Rattle.ranges.specs.declared.kinds.Kind.{Kind}
use Rattle.ranges.specs.Ranges.{Found, lost, found, path_ranges}
use Rattle.ranges.specs.Flat.{stride, flat_front}
use Rattle.answers.specs.Answers.{Answer, Listed}

-- the ranges of a path, or the refusal that comes before the test of room
pub data Answered : Type 0 where
  refused : Refusal → Answered
  listed : List PathRange → Answered

abbrev pub from_found : Found → Answered
from_found lost = refused BadTable
from_found (found l) = listed l

-- "A query tests 1, then 4; 9 and 10 come as the climb meets them"
unfoldable pub ranges_of : Kind → Six → ℕ → ℕ → Answered
ranges_of kind t u v = asked t (u ∷ v ∷ []) refused (from_found (path_ranges kind (size_of t) t u v))

-- "2 for lists is last": where the list is too short nothing is written; "Entries of a list past its count are unchanged"
abbrev pub room_answer : Answered → ℕ → Listed
room_answer (refused x) room = Err x
room_answer (listed l) room = pick (leb (stride * length l) room) (Ok (length l)) (Err NoRoom)

abbrev pub room_list : Answered → List ℕ → List ℕ
room_list (refused x) lent = lent
room_list (listed l) lent = pick (leb (stride * length l) (length lent)) (flat_front l lent) lent

-- what a call answers and leaves in the list that it was lent
pub record ListedAs (a : Answered) (lent left : List ℕ) (r : Listed) : Type 0 where
  pub answer : r ≡ room_answer a (length lent)
  pub list : left ≡ room_list a lent

-- "Range room: 2·floor(log2 n)+1 is always enough, and a call returns that number for n from 1 to 32,768, else refusal 1."
abbrev pub range_room : ℕ → Answer
range_room n = pick (both (leb 1 n) (leb n max_vertices)) (Ok (2 * log2 n + 1)) (Err BadSize)
