-- 01, "Codes": what a call that takes a graph answers, and what it leaves in work and in other memory; and validation, the first of these calls.
use Rattle.std.specs.Prelude.{ℕ, ◌≤◌, ◌<◌, ◌≡◌, ◌≢◌, List, [], ◌∷◌, ◌++◌, length, drop, replicate}
use Rattle.paths.specs.Tree.{Symmetric, AllReached, Tree}
use Rattle.answers.specs.Limits.{max_vertices, max_targets, work_room}
use Rattle.answers.specs.Codes.{done, bad_size, no_room, bad_offsets, bad_vertex, bad_root, not_symmetric, disconnected, has_cycle}
use Rattle.graph.specs.Judgement.{Test, test, First}
use Rattle.graph.specs.Lent.{vertices, list_of, Offsets, Targets}

-- 1 BadSize: "n or E beyond its limit"; "Fewer than two offsets give BadSize", since n is then 0
pub record Sized (os ts : List ℕ) : Type 0 where
  pub some_vertex : 1 ≤ vertices os
  pub few_vertices : vertices os ≤ max_vertices
  pub few_targets : length ts ≤ max_targets

-- 1 BadSize: "n or E beyond its limit, or a table not of length n"; `long` says that the lent tables have that length
pub record Fits (os ts : List ℕ) (long : Type 0) : Type 0 where
  pub sized : Sized os ts
  pub tables : long

-- the work room of a lent graph
abbrev pub room_of : List ℕ → List ℕ → ℕ
room_of os ts = work_room (vertices os) (length ts)

-- the tests 3 to 8, which read the graph
abbrev pub graph_tests : List ℕ → List ℕ → ℕ → List Test
graph_tests os ts root =
    test bad_offsets (Offsets os ts)
    ∷ test bad_vertex (Targets os ts)
    ∷ test bad_root (root < vertices os)
    ∷ test not_symmetric (Symmetric (vertices os) (list_of os ts))
    ∷ test disconnected (AllReached (vertices os) (list_of os ts) root)
    ∷ test has_cycle (Tree (vertices os) (list_of os ts))
    ∷ []

-- every call that takes a graph tests 1, then 2, and then the rest
abbrev pub opening : (fits roomy : Type 0) → List Test → List Test
opening fits roomy rest = test bad_size fits ∷ test no_room roomy ∷ rest

-- the first k entries are zero, the rest is unchanged
abbrev pub cleared : ℕ → List ℕ → List ℕ
cleared k w = replicate k 0 ++ drop k w

-- "Once the work room was long enough, the first 8n+E entries of work are zero afterwards, on any answer; the rest of work, and all of it before
-- that test, is unchanged."
-- The tests before it are those of size.
pub record Leaves (sized : Type 0) (room : ℕ) (w w' : List ℕ) : Type 0 where
  pub zeroed : sized → room ≤ length w → w' ≡ cleared room w
  pub kept : (sized × (room ≤ length w) → ⊥) → w' ≡ w

-- What all calls that take a graph have in common. A call is lent the graph, work w, and other memory `lent`: tables, lists, or nothing. It answers
-- the code of the first of its tests that is not passed; after 0 what it is to write stands in the memory that it left; a refused call "writes no
-- table and no list"; work is left as 01 says.
pub record GraphCall {M : Type 0} (os ts : List ℕ) (fits : Type 0) (tests : List Test) (Written : M → Type 0) (lent left : M) (w w' : List ℕ) (c : ℕ)
    : Type 0
  where
    pub code : First tests c
    pub written : c ≡ done → Written left
    pub refused : c ≢ done → left ≡ lent
    pub work : Leaves fits (room_of os ts) w w'

-- "A build, or validation alone, tests 1 to 8 in that order": for work of `room` entries
abbrev pub validation : List ℕ → List ℕ → ℕ → ℕ → List Test
validation os ts root room = opening (Sized os ts) (room_of os ts ≤ room) (graph_tests os ts root)

-- `validate_tree` with work w answers c and leaves w'; it is lent no other memory
abbrev pub Validates : (os ts : List ℕ) (root : ℕ) (w w' : List ℕ) (c : ℕ) → Type 0
Validates os ts root w w' c = GraphCall os ts (Sized os ts) (validation os ts root (length w)) (λ (m : Unit {0}). Unit {0}) tt tt w w' c
