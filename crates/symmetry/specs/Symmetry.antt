-- What the symmetry test asks of its caller and answers (01, "Codes", 6).
use Rattle.std.specs.Prelude.{ℕ, ◌+◌, ◌≤◌, ◌<◌, ◌^◌, ◌≡◌, Bool, true, false, List, length}
use Rattle.paths.specs.Tree.{Symmetric}
use Rattle.graph.specs.Lent.{vertices, list_of, Offsets, Targets}
use Rattle.graph.specs.Work.{Only}

-- a graph of n vertices with sound offsets and targets, and n + E entries of work from index base on
pub record SymmetryAsks (os ts : List ℕ) (n base : ℕ) (w : List ℕ) : Type 0 where
  pub size : n ≡ vertices os
  pub some_vertex : 1 ≤ n
  pub small : n < 2 ^ 32
  pub offsets : Offsets os ts
  pub targets : Targets os ts
  pub room : base + n + length ts ≤ length w

-- the answer is whether the lists are symmetric; only those entries of work were written
pub record SymmetryAnswers (os ts : List ℕ) (n base : ℕ) (w w' : List ℕ) (r : Bool) : Type 0 where
  pub right : r ≡ true → Symmetric n (list_of os ts)
  pub wrong : r ≡ false → Symmetric n (list_of os ts) → ⊥
  pub only : Only base (base + n + length ts) w w'
