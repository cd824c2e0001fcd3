-- 01, "Codes": the tests of a call on lent tables. "A query tests 1, then 4; 9 and 10 come as the climb meets them; 2 for lists is last." As with the
-- calls that take a graph they stand in a list, and the code is that of the first that is not passed (`First`): so each code is given exactly then.
use Rattle.std.specs.Prelude.{ℕ, ◌≤◌, ◌≡◌, ◌≢◌, List, [], ◌∷◌, length, Err}
use Rattle.paths.specs.Walk.{In, Below}
use Rattle.answers.specs.Codes.{bad_size, no_room, bad_vertex, bad_table, too_far}
use Rattle.answers.specs.Limits.{max_vertices}
use Rattle.answers.specs.Answers.{answer_code, interval_code, Answer, Interval}
use Rattle.answers.specs.declared.answer.Refusal.TheVariants.{BadTable, TooFar}
use Rattle.graph.specs.Judgement.{Test, test, First}
use Rattle.tables.specs.Tables.{Six}
use Rattle.climb.specs.Asked.{size_of, others_of}
use Rattle.ranges.specs.Calls.{Answered, refused, listed}
use Rattle.ranges.specs.declared.kinds.PathRange.{PathRange}

-- 1 BadSize: "n .. beyond its limit, or a table not of length n". n is the length of the first table, `lengths` are those of the others
pub record Lengths (n : ℕ) (lengths : List ℕ) : Type 0 where
  pub some : 1 ≤ n
  pub few : n ≤ max_vertices
  pub same : (l : ℕ) → In l lengths → l ≡ n

-- "A query tests 1, then 4", that is "a vertex argument of a query, is n or more"; and then what is its own
abbrev pub asking : (n : ℕ) (lengths vertices : List ℕ) → List Test → List Test
asking n lengths vs own = test bad_size (Lengths n lengths) ∷ test bad_vertex (Below n vs) ∷ own

-- "9 and 10 come as the climb meets them": the definition of the query met no unsound entry, and no number too large
abbrev pub answering : Answer → List Test
answering a = test bad_table (a ≢ Err BadTable) ∷ test too_far (a ≢ (Err TooFar)) ∷ []

-- the code of a query on six tables with these vertices as arguments; on two tables
abbrev pub Queried : Six → List ℕ → Answer → Type 0
Queried t vs a = First (asking (size_of t) (others_of t) vs (answering a)) (answer_code a)

abbrev pub QueriedTwo : (table other : List ℕ) → ℕ → Answer → Type 0
QueriedTwo table other v a = First (asking (length table) (length other ∷ []) (v ∷ []) (answering a)) (answer_code a)

-- and of a query for an interval
abbrev pub QueriedEnds : Six → List ℕ → Interval → Type 0
QueriedEnds t vs i = First (asking (size_of t) (others_of t) vs (test bad_table (i ≢ Err BadTable) ∷ [])) (interval_code i)

-- "2 for lists is last": the list has room for the ranges that were found, where k of them take `need k` entries
abbrev pub RangesAsked : Six → List ℕ → Answered → (need : ℕ → ℕ) → (room code : ℕ) → Type 0
RangesAsked t vs a need room code =
    First
    (asking (size_of t) (others_of t) vs
    (test bad_table (a ≢ refused BadTable) ∷ test no_room ((l : List PathRange) → a ≡ listed l → need (length l) ≤ room) ∷ []))
    code
