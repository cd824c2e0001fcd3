-- Tables that number a tree within the limits, and the tree's paths as they are read off the tables.
use Rattle.std.specs.Prelude.{ℕ, ◌≤◌, Bool, List, ◌∷◌, ltb}
use Rattle.sums.specs.Sum.{at, count}
use Rattle.paths.specs.Rooted.{Anc}
use Rattle.paths.specs.Route.{ptail, top, On}
use Rattle.answers.specs.Limits.{max_vertices}
use Rattle.numbering.specs.Lights.{lights}
use Rattle.tables.specs.Tables.{Six, NumberingOf}

-- a heavy-chain numbering, from this root, of the tree whose lists are A, with at most as many vertices as the limit allows
pub record Given (n : ℕ) (A : ℕ → List ℕ) (root : ℕ) (t : Six) (kids : ℕ → List ℕ) : Type 0 where
  pub tables : NumberingOf n A root t kids
  pub limit : n ≤ max_vertices

-- what follows u on the path from u to v
abbrev pub path_in : Six → ℕ → ℕ → List ℕ
path_in t u v = ptail (at t.parent) (at t.depth) u v

-- x is on the path from u to v
abbrev pub OnIn : Six → ℕ → ℕ → ℕ → Type 0
OnIn t x u v = On (at t.parent) (at t.depth) x u v

-- whether the path from x to r passes v
abbrev pub through? : Six → (v r x : ℕ) → Bool
through? t v r x = ltb 0 (count v (x ∷ path_in t x r))

-- x is an ancestor of v, or v itself
abbrev pub AncIn : Six → ℕ → ℕ → Type 0
AncIn t x v = Anc (at t.parent) (at t.depth) x v

-- the deepest common ancestor of u and v
abbrev pub top_in : Six → ℕ → ℕ → ℕ
top_in t u v = top (at t.parent) (at t.depth) u v

-- the light edges above v
abbrev pub lights_in : Six → ℕ → ℕ
lights_in t v = lights (at t.parent) (at t.depth) (at t.head) v
