-- What the functions that list one component, all of them, and those of a lent graph ask and answer.
use Rattle.std.specs.Prelude.{ℕ, ◌+◌, ◌≤◌, ◌<◌, ◌^◌, ◌≡◌, List, ◌∷◌, map, length}
use Rattle.std.proofs.lemmas.List.Edits.{sets}
use Rattle.sums.specs.Sum.{at, how_many}
use Rattle.paths.specs.Walk.{Stands}
use Rattle.paths.specs.Rooted.{Spans}
use Rattle.paths.specs.Route.{ptail}
use Rattle.answers.specs.Codes.{no_room}
use Rattle.graph.specs.Judgement.{test}
use Rattle.graph.specs.Lent.{vertices, list_of}
use Rattle.graph.specs.Steps.{GraphPart}
use Rattle.graph.specs.Work.{Only}
use Rattle.centroid.specs.Components.{component_of}
use Rattle.centroid.specs.Decomposition.{DecompositionOf}
use Rattle.centroid.specs.Lists.{Breadth, branch_of, ListsOf}
use Rattle.paths.specs.Lists.{front}
use Rattle.centroid.specs.Calls.{four, FourOf, list_tests}
use Rattle.centroid.specs.Regions.{queue_from, met_from, work_end}
use Rattle.centroid.specs.Search.{LentTree}
use Rattle.components.specs.Levels.{levels_in, total_in}

-- a tree with the levels of its decomposition in work
pub record Levelled (os ts : List ℕ) (n : ℕ) (w : List ℕ) : Type 0 where
  pub tree : LentTree os ts n
  pub room : work_end n ≤ length w
  pub up : List ℕ
  pub decomposition : DecompositionOf n (list_of os ts) up (levels_in n w)

-- how many vertices c's component has
abbrev pub size_of : (par dep : ℕ → ℕ) → ℕ → List ℕ → ℕ → ℕ
size_of par dep n w c = how_many n (component_of (ptail par dep) (at (levels_in n w)) c)

-- the component of c is to be listed from place `from` on: it fits
pub record ComponentAsks (os ts : List ℕ) (n c from : ℕ) (vs ds bs w : List ℕ) : Type 0 where
  pub levelled : Levelled os ts n w
  pub centre : c < n
  pub vertex_room : (par dep : ℕ → ℕ) → Spans n (Stands (list_of os ts)) 0 par dep → from + size_of par dep n w c ≤ length vs
  pub distance_room : (par dep : ℕ → ℕ) → Spans n (Stands (list_of os ts)) 0 par dep → from + size_of par dep n w c ≤ length ds
  pub branch_room : (par dep : ℕ → ℕ) → Spans n (Stands (list_of os ts)) 0 par dep → from + size_of par dep n w c ≤ length bs

-- q is c's component breadth first, and stands from place `from` on with distances and branches
pub record ListedBy (os ts : List ℕ) (n : ℕ) (par dep : ℕ → ℕ) (c from : ℕ) (vs ds bs w vs' ds' bs' : List ℕ) (r : ℕ) : Type 0 where
  pub q : List ℕ
  pub breadth : Breadth (list_of os ts) (ptail par dep) (component_of (ptail par dep) (at (levels_in n w)) c) c q
  pub count : r ≡ from + length q
  pub vertices : vs' ≡ sets vs from q
  pub distances : ds' ≡ sets ds from (map (λ x. length (ptail par dep c x)) q)
  pub branches : bs' ≡ sets bs from (map (branch_of (ptail par dep) c) q)

-- the same whichever parents and depths from root 0 give the paths
pub record ComponentListed (os ts : List ℕ) (n c from : ℕ) (vs ds bs w vs' ds' bs' w' : List ℕ) (r : ℕ) : Type 0 where
  pub listed : (par dep : ℕ → ℕ) → Spans n (Stands (list_of os ts)) 0 par dep → ListedBy os ts n par dep c from vs ds bs w vs' ds' bs' r
  pub only : Only (queue_from n) (met_from n) w w'

-- all components are to be listed, and fit
pub record AllAsks (os ts : List ℕ) (n : ℕ) (vs ds bs ss w : List ℕ) : Type 0 where
  pub levelled : Levelled os ts n w
  pub starts_room : n + 1 ≤ length ss
  pub small : total_in n w < 2 ^ 32
  pub vertex_room : total_in n w ≤ length vs
  pub distance_room : total_in n w ≤ length ds
  pub branch_room : total_in n w ≤ length bs

-- they are, at the front of the lent lists
pub record AllListed (os ts : List ℕ) (n : ℕ) (vs ds bs ss w vs' ds' bs' ss' w' : List ℕ) : Type 0 where
  pub l₁ : List ℕ
  pub l₂ : List ℕ
  pub l₃ : List ℕ
  pub l₄ : List ℕ
  pub lists : ListsOf n (list_of os ts) l₁ l₂ l₃ l₄
  pub vertices : vs' ≡ front l₁ vs
  pub distances : ds' ≡ front l₂ ds
  pub branches : bs' ≡ front l₃ bs
  pub starts : ss' ≡ front l₄ ss
  pub only : Only (queue_from n) (met_from n) w w'

-- the tests behind the limits and the room of work, that of the starts first, and the lists, with work still in use
abbrev pub GraphListed : (os ts vs ds bs ss w vs' ds' bs' ss' w' : List ℕ) (c : ℕ) → Type 0
GraphListed os ts vs ds bs ss w vs' ds' bs' ss' w' c =
    GraphPart os ts (test no_room (vertices os + 1 ≤ length ss) ∷ list_tests os ts vs ds bs)
    (FourOf os ts vs ds bs ss) (four vs ds bs ss) (four vs' ds' bs' ss') w w' c
