-- What `parents_listed` asks and decides, of a visit in work: at w j is the j-th vertex met, at w (n + j) the position from which it was met.
use Rattle.std.specs.Prelude.{ℕ, ◌+◌, ◌*◌, ◌≤◌, ◌<◌, List, length}
use Rattle.sums.specs.Sum.{at}
use Rattle.paths.specs.Walk.{In}
use Rattle.graph.specs.Lent.{list_of}

-- 2n entries of work, in which the positions are below n
pub record ListedAsks (n : ℕ) (w : List ℕ) : Type 0 where
  pub room : 2 * n ≤ length w
  pub position : (j : ℕ) → 0 < j → j < n → at w (n + j) < n

-- each vertex but the first has in its list the vertex from which it was met
abbrev pub ParentsListed : List ℕ → List ℕ → ℕ → List ℕ → Type 0
ParentsListed os ts n w = (j : ℕ) → 0 < j → j < n → In (at w (at w (n + j))) (list_of os ts (at w j))
