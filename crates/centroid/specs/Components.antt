-- 01, "Definitions", centroid: components and parts of a tree, as tests on its vertices.
use Rattle.std.specs.Prelude.{ℕ, ◌*◌, ◌≤◌, ◌<◌, ◌≡◌, ◌≢◌, Bool, true, not, List, ◌∷◌, eqb, leb, length}
use Rattle.sums.specs.Sum.{how_many}
use Rattle.paths.specs.Walk.{Stands, Simple}
use Rattle.answers.specs.Choice.{both, all?}

-- `way u v` is what follows u on the simple path to v, in the tree of n vertices with the lists A. A tree has one such path, so this says nothing of
-- the tables.
pub record Ways (n : ℕ) (A : ℕ → List ℕ) (way : ℕ → ℕ → List ℕ) : Type 0 where
  pub simple : {u v : ℕ} → u < n → v < n → Simple n (Stands A) u v (way u v)

-- x is in s's component when the vertices of a level below k are gone: the path from s to x meets none of them
abbrev pub in_component : (way : ℕ → ℕ → List ℕ) (level : ℕ → ℕ) → ℕ → ℕ → ℕ → Bool
in_component way level k s x = all? (λ y. leb k (level y)) (s ∷ way s x)

-- "c's component is what is left around c when the centroids above it are removed"
abbrev pub component_of : (way : ℕ → ℕ → List ℕ) (level : ℕ → ℕ) → ℕ → ℕ → Bool
component_of way level c x = in_component way level (level c) c x

-- when v is removed from the component C, x is in the part that w is in
abbrev pub in_part : (way : ℕ → ℕ → List ℕ) (C : ℕ → Bool) → ℕ → ℕ → ℕ → Bool
in_part way C v w x = both (C x) (all? (λ y. not (eqb y v)) (w ∷ way w x))

-- "removal leaves parts of at most half the vertices": twice the part is at most the whole
abbrev pub Halves : (n : ℕ) (way : ℕ → ℕ → List ℕ) (C : ℕ → Bool) → ℕ → Type 0
Halves n way C v = (w : ℕ) → w < n → C w ≡ true → w ≢ v → 2 * how_many n (in_part way C v w) ≤ how_many n C

-- "Centroid: from a start vertex, the vertex of the component whose removal leaves parts of at most half the vertices; of two such, the one nearer
-- the start."
pub record CentroidFrom (n : ℕ) (way : ℕ → ℕ → List ℕ) (C : ℕ → Bool) (s c : ℕ) : Type 0 where
  pub inside : C c ≡ true
  pub start_inside : C s ≡ true
  pub halves : Halves n way C c
  pub nearer : (y : ℕ) → y < n → C y ≡ true → y ≢ c → Halves n way C y → length (way s c) < length (way s y)
