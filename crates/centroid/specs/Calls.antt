-- 01, "Codes": what the decomposition and the component lists answer and leave. Both have root 0.
use Rattle.std.specs.Prelude.{ℕ, ◌+◌, ◌≤◌, ◌≡◌, List, [], ◌∷◌, ◌++◌, length}
use Rattle.paths.specs.Lists.{front}
use Rattle.answers.specs.Codes.{no_room}
use Rattle.graph.specs.Judgement.{Test, test}
use Rattle.graph.specs.Lent.{vertices, list_of}
use Rattle.graph.specs.Validation.{Sized, Fits, room_of, graph_tests, opening, GraphCall}
use Rattle.centroid.specs.Decomposition.{DecompositionOf}
use Rattle.centroid.specs.Lists.{ListsOf}

-- "The decomposition writes two: parent and level."
pub record Two : Type 0 where
  pub up : List ℕ
  pub level : List ℕ

abbrev pub two : (up level : List ℕ) → Two
two up level = record { up = up; level = level }

-- each of exactly n entries
pub record TwoLong (n : ℕ) (t : Two) : Type 0 where
  pub up_long : length t.up ≡ n
  pub level_long : length t.level ≡ n

abbrev pub decomposing : (os ts up level : List ℕ) → ℕ → List Test
decomposing os ts up level room = opening (Fits os ts (TwoLong (vertices os) (two up level))) (room_of os ts ≤ room) (graph_tests os ts 0)

-- the tables of a decomposition of the lent graph
abbrev pub TwoOf : (os ts : List ℕ) → Two → Type 0
TwoOf os ts t = DecompositionOf (vertices os) (list_of os ts) t.up t.level

-- `try_centroid_decomposition` with tables up, level and work w answers c and leaves up', level', w'
abbrev pub Decomposes : (os ts up level w up' level' w' : List ℕ) (c : ℕ) → Type 0
Decomposes os ts up level w up' level' w' c =
    GraphCall os ts (Fits os ts (TwoLong (vertices os) (two up level))) (decomposing os ts up level (length w))
    (TwoOf os ts) (two up level) (two up' level') w w' c

-- the lists fit their room
pub record Fitting (os ts : List ℕ) (vs ds bs : List ℕ) : Type 0 where
  pub l₁ : List ℕ
  pub l₂ : List ℕ
  pub l₃ : List ℕ
  pub l₄ : List ℕ
  pub lists : ListsOf (vertices os) (list_of os ts) l₁ l₂ l₃ l₄
  pub vertex_room : length l₁ ≤ length vs
  pub distance_room : length l₁ ≤ length ds
  pub branch_room : length l₁ ≤ length bs

-- the tests that follow the first two: those that read the graph, and "once more at the end for the lists"
abbrev pub list_tests : (os ts vs ds bs : List ℕ) → List Test
list_tests os ts vs ds bs = graph_tests os ts 0 ++ (test no_room (Fitting os ts vs ds bs) ∷ [])

-- "for the component lists, 2 is tested second for work and for the table of starts, and once more at the end for the lists"
abbrev pub listing : (os ts vs ds bs ss : List ℕ) → ℕ → List Test
listing os ts vs ds bs ss room = opening (Sized os ts) ((room_of os ts ≤ room) × (vertices os + 1 ≤ length ss)) (list_tests os ts vs ds bs)

-- what `component_lists` is lent: room for vertices, distances and branches, and the table of starts
pub record Four : Type 0 where
  pub vertices : List ℕ
  pub distances : List ℕ
  pub branches : List ℕ
  pub starts : List ℕ

abbrev pub four : (vs ds bs ss : List ℕ) → Four
four vs ds bs ss = record { vertices = vs; distances = ds; branches = bs; starts = ss }

-- the lists of the lent graph stand at the front of the lent ones
abbrev pub FourOf : (os ts vs ds bs ss : List ℕ) → Four → Type 0
FourOf os ts vs ds bs ss m =
    (l₁ : List ℕ) × (l₂ : List ℕ) × (l₃ : List ℕ) × (l₄ : List ℕ) × ListsOf (vertices os) (list_of os ts) l₁ l₂ l₃ l₄
    × (m.vertices ≡ front l₁ vs) × (m.distances ≡ front l₂ ds) × (m.branches ≡ front l₃ bs) × (m.starts ≡ front l₄ ss)

-- `component_lists` with room vs, ds, bs for vertices, distances and branches, ss for the starts, and work w
abbrev pub Lists : (os ts vs ds bs ss w vs' ds' bs' ss' w' : List ℕ) (c : ℕ) → Type 0
Lists os ts vs ds bs ss w vs' ds' bs' ss' w' c =
    GraphCall os ts (Sized os ts) (listing os ts vs ds bs ss (length w)) (FourOf os ts vs ds bs ss) (four vs ds bs ss) (four vs' ds' bs' ss') w w' c
