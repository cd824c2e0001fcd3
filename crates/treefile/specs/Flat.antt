-- What a writer reads of a lent flat list, and the parts of the report that it writes at once.
use Rattle.std.specs.Prelude.{ℕ, ◌*◌, ◌^◌, ◌≤◌, ◌<◌, ◌≡◌, List, [], ◌∷◌, ◌++◌, length, Ok, Err}
use Rattle.tables.specs.Tables.{Six}
use Rattle.ranges.specs.Flat.{stride, ranges_in}
use Rattle.ranges.specs.Calls.{Answered, refused, listed, ranges_of}
use Rattle.ranges.specs.declared.kinds.PathRange.{PathRange}
use Rattle.ranges.specs.declared.kinds.Kind.{Kind}
use Rattle.treefile.specs.Report.{decimal, space, list_text}
use Rattle.treefile.specs.Sizes.{file_ranges, range_digits}
use Rattle.treefile.specs.declared.page.Page.{Page}
use Rattle.treefile.specs.Writing.{Room}
use Rattle.answers.specs.Answers.{Listed}

-- what an answer and the list that was left say together
abbrev pub answered_in : Listed → List ℕ → Answered
answered_in (Err x) l = refused x
answered_in (Ok k) l = listed (ranges_in k l)

-- the text of an answer with the list that was left
abbrev pub listed_text : Listed → List ℕ → List ℕ
listed_text a l = list_text (answered_in a l)

-- how many numbers of the list an answer speaks of
abbrev pub spoken_of : Listed → ℕ
spoken_of (Err x) = 0
spoken_of (Ok k) = stride * k

-- how many numbers an answer takes in a flat list
abbrev pub taken_by : Answered → ℕ
taken_by (refused x) = 0
taken_by (listed l) = stride * length l

-- the list holds the ranges of the answer, and their text fits
pub record ListRoom (a : Listed) (l : List ℕ) (page : Page) : Type 0 where
  pub whole : spoken_of a ≤ length l
  pub room : Room (listed_text a l) page

-- the numbers of every range are below m
abbrev pub Low : ℕ → List PathRange → Type 0
Low m [] = Unit {0}
Low m (r ∷ l) = (r.start < m) × (r.end < m) × Low m l

-- no more ranges than a path of the program's trees has, and of no more digits
pub record Short (l : List PathRange) : Type 0 where
  pub few : length l ≤ file_ranges
  pub low : Low (10 ^ range_digits) l

-- every list of ranges of these tables is short
abbrev pub ShortLists : Six → Type 0
ShortLists t = (k : Kind) (u v : ℕ) (l : List PathRange) → ranges_of k t u v ≡ listed l → Short l

-- what stands before a query's code
abbrev pub query_head : ℕ → ℕ → List ℕ
query_head place kind = decimal place ++ (space ++ (decimal kind ++ space))
