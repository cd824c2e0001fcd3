-- What condition 2 asks of the decomposition and of the component lists: "every .. centroid right".
use Rattle.std.specs.Prelude.{ℕ, ◌+◌, ◌≤◌, ◌<◌, ◌≡◌, ◌↔◌, true, List, map, length}
use Rattle.std.proofs.Math.Seq.{slice}
use Rattle.sums.specs.Sum.{at, sum}
use Rattle.paths.specs.Walk.{In, NoDup}
use Rattle.numbering.specs.Log.{log2}
use Rattle.centroid.specs.Components.{Ways, component_of, in_part}
use Rattle.centroid.specs.Decomposition.{CentroidAt}
use Rattle.centroid.specs.Lists.{Breadth, branch_of}

-- the two tables of the decomposition of the tree with n vertices and the lists A
pub record Centroids (n : ℕ) (A : ℕ → List ℕ) (up level : List ℕ) : Type 0 where
  -- "two: parent and level", each of exactly n entries
  pub up_long : length up ≡ n
  pub level_long : length level ≡ n
  -- `way u v` is what follows u on the simple path to v: there is such a way, and what follows holds by any
  pub has_ways : (way : ℕ → ℕ → List ℕ) × Ways n A way
  -- "from a start vertex, the vertex of the component whose removal leaves parts of at most half the vertices; of two such, the one nearer the start.
  -- The first start is 0; each next start is a neighbour of the removed centroid. Levels grow by 1"
  pub centroid : {way : ℕ → ℕ → List ℕ} {c : ℕ} → Ways n A way → c < n → CentroidAt n A way (at up) (at level) c
  -- c's component is the part of its parent's in which c lies when the parent is removed
  pub part :
      {way : ℕ → ℕ → List ℕ} {c : ℕ} → Ways n A way → c < n → at up c < n → (x : ℕ) → x < n
      → component_of way (at level) c x ≡ in_part way (component_of way (at level) (at up c)) (at up c) c x
  -- "and never exceed floor(log2 n)."
  pub level_bound : {c : ℕ} → c < n → at level c ≤ log2 n

-- the component lists: vertices, distances and branches, and the starts
pub record ComponentLists (n : ℕ) (A : ℕ → List ℕ) (vertices distances branches starts : List ℕ) : Type 0 where
  -- the decomposition, which the lists are built with
  pub up : List ℕ
  pub level : List ℕ
  pub decomposition : Centroids n A up level
  -- `list c`: "for c = 0 to n−1, the vertices of c's component breadth first in list order"
  pub list : ℕ → List ℕ
  pub breadth_first : {way : ℕ → ℕ → List ℕ} {c : ℕ} → Ways n A way → c < n → Breadth A way (component_of way (at level) c) c (list c)
  pub component :
      {way : ℕ → ℕ → List ℕ} {c : ℕ} → Ways n A way → c < n → (x : ℕ) → In x (list c) ↔ ((x < n) × (component_of way (at level) c x ≡ true))
  pub each_once : {c : ℕ} → c < n → NoDup (list c)
  -- "A table of n+1 starts says where each begins."
  pub first_start : at starts 0 ≡ 0
  pub next_start : {c : ℕ} → c < n → at starts (c + 1) ≡ at starts c + length (list c)
  pub vertex_part : {c : ℕ} → c < n → slice (at starts c) (at starts (c + 1)) vertices ≡ list c
  -- "each with its distance from c"
  pub distance_part :
      {way : ℕ → ℕ → List ℕ} {c : ℕ} → Ways n A way → c < n → slice (at starts c) (at starts (c + 1)) distances ≡ map (λ x. length (way c x)) (list c)
  -- "and its branch, the neighbour of c it hangs from (c itself for c)."
  pub branch_part :
      {way : ℕ → ℕ → List ℕ} {c : ℕ} → Ways n A way → c < n → slice (at starts c) (at starts (c + 1)) branches ≡ map (branch_of way c) (list c)
  -- "The total length equals the sum of level(v)+1 over all vertices."
  pub total : at starts n ≡ sum n (λ v. at level v + 1)
