-- 01, "Component lists": "for c = 0 to n−1, the vertices of c's component breadth first in list order, each with its distance from c and its branch,
-- the neighbour of c it hangs from (c itself for c)."
use Rattle.std.specs.Prelude.{ℕ, zero, suc, ◌+◌, ◌<◌, ◌≡◌, Bool, List, [], ◌∷◌, ◌++◌, map, eqb, length}
use Rattle.sums.specs.Sum.{at}
use Rattle.paths.specs.Lists.{keep}
use Rattle.answers.specs.Choice.{both}
use Rattle.centroid.specs.Components.{Ways, component_of}
use Rattle.centroid.specs.Decomposition.{DecompositionOf}

-- the neighbours of x that are in the component C and one step farther from c than x, in list order
abbrev pub onward : (A : ℕ → List ℕ) (way : ℕ → ℕ → List ℕ) (C : ℕ → Bool) → ℕ → ℕ → List ℕ
onward A way C c x = keep (λ y. both (C y) (eqb (length (way c y)) (suc (length (way c x))))) (A x)

abbrev pub onwards : (A : ℕ → List ℕ) (way : ℕ → ℕ → List ℕ) (C : ℕ → Bool) → ℕ → List ℕ → List ℕ
onwards A way C c [] = []
onwards A way C c (x ∷ q) = onward A way C c x ++ onwards A way C c q

-- breadth first in list order: c, and then what each entry of the list leads on to, in turn
abbrev pub Breadth : (A : ℕ → List ℕ) (way : ℕ → ℕ → List ℕ) (C : ℕ → Bool) → ℕ → List ℕ → Type 0
Breadth A way C c q = q ≡ c ∷ onwards A way C c q

-- the second vertex on the path from c to x, and c for c itself
abbrev pub branch_of : (way : ℕ → ℕ → List ℕ) → ℕ → ℕ → ℕ
branch_of way c x = elim (way c x) [ [] ↦ c | (y ∷ l) ↦ y ]

-- the lists of the centroids 0 to k − 1 one behind the other
abbrev pub joined : (ℕ → List ℕ) → ℕ → List ℕ
joined f zero = []
joined f (suc k) = joined f k ++ f k

-- vertices, distances, branches and starts of the tree with the lists A, by any way of its simple paths; q c is c's component breadth first
pub record ListsOf (n : ℕ) (A : ℕ → List ℕ) (vertices distances branches starts : List ℕ) : Type 0 where
  pub up : List ℕ
  pub level : List ℕ
  pub decomposition : DecompositionOf n A up level
  pub q : ℕ → List ℕ
  pub breadth : (way : ℕ → ℕ → List ℕ) → Ways n A way → (c : ℕ) → c < n → Breadth A way (component_of way (at level) c) c (q c)
  pub all_vertices : vertices ≡ joined q n
  pub all_distances : (way : ℕ → ℕ → List ℕ) → Ways n A way → distances ≡ joined (λ c. map (λ x. length (way c x)) (q c)) n
  pub all_branches : (way : ℕ → ℕ → List ℕ) → Ways n A way → branches ≡ joined (λ c. map (branch_of way c) (q c)) n
  pub starts_long : length starts ≡ n + 1
  pub all_starts : (c : ℕ) → c < n + 1 → at starts c ≡ length (joined q c)
