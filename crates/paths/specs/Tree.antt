-- 01, "Definitions": "Tree: symmetric lists, every vertex joined to every other by exactly one simple path, no vertex in its own list, no entry
-- twice in a list." A u is the list of the vertex u, and the vertices are the numbers below n.
use Rattle.std.specs.Prelude.{ℕ, ◌<◌, ◌≡◌, List}
use Rattle.sums.specs.Sum.{count}
use Rattle.paths.specs.Walk.{Out, NoDup, Stands, From, Simple}

-- v stands in u's list as often as u in v's (01, "Codes", 6)
abbrev pub Symmetric : ℕ → (ℕ → List ℕ) → Type 0
Symmetric n A = (u v : ℕ) → u < n → v < n → count v (A u) ≡ count u (A v)

-- each vertex is reached from the root (01, "Codes", 7)
abbrev pub AllReached : ℕ → (ℕ → List ℕ) → ℕ → Type 0
AllReached n A root = (v : ℕ) → v < n → (P : List ℕ) × From (Stands A) root v P

-- exactly one list has the property
abbrev pub ExactlyOne : (List ℕ → Type 0) → Type 0
ExactlyOne has = (P : List ℕ) × has P × ((Q : List ℕ) → has Q → Q ≡ P)

pub record Tree (n : ℕ) (A : ℕ → List ℕ) : Type 0 where
  pub symmetric : Symmetric n A
  pub joined : (u v : ℕ) → u < n → v < n → ExactlyOne (Simple n (Stands A) u v)
  pub no_self : (u : ℕ) → u < n → Out u (A u)
  pub no_repeat : (u : ℕ) → u < n → NoDup (A u)
