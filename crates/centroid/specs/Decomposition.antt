-- 01, "Definitions", centroid: "The first start is 0; each next start is a neighbour of the removed centroid. Levels grow by 1".
use Rattle.std.specs.Prelude.{ℕ, ◌+◌, ◌<◌, ◌≡◌, List, length}
use Rattle.sums.specs.Sum.{at}
use Rattle.paths.specs.Walk.{In}
use Rattle.answers.specs.Limits.{no_parent}
use Rattle.centroid.specs.Components.{Ways, component_of, CentroidFrom}

-- where the search for c began: at 0, with no parent and level 0; or at a neighbour of c's parent, with a level one more than the parent's
pub data Began (n : ℕ) (A : ℕ → List ℕ) (up level : ℕ → ℕ) (c : ℕ) : ℕ → Type 0 where
  first : up c ≡ no_parent → level c ≡ 0 → Began n A up level c 0
  next : (s : ℕ) → up c < n → In s (A (up c)) → level c ≡ level (up c) + 1 → Began n A up level c s

-- each vertex is the centroid of its component, from such a start
pub record CentroidAt (n : ℕ) (A : ℕ → List ℕ) (way : ℕ → ℕ → List ℕ) (up level : ℕ → ℕ) (c : ℕ) : Type 0 where
  pub start : ℕ
  pub start_below : start < n
  pub began : Began n A up level c start
  pub centroid : CentroidFrom n way (component_of way level c) start c

-- the two tables of the decomposition of the tree with the lists A, by any way of its simple paths
pub record DecompositionOf (n : ℕ) (A : ℕ → List ℕ) (up level : List ℕ) : Type 0 where
  pub up_long : length up ≡ n
  pub level_long : length level ≡ n
  pub centroids : (way : ℕ → ℕ → List ℕ) → Ways n A way → (c : ℕ) → c < n → CentroidAt n A way (at up) (at level) c
