-- The path between two vertices of a rooted tree, read off the parents: the deeper end steps up until the ends meet.
use Rattle.std.specs.Prelude.{ℕ, zero, suc, ◌+◌, Bool, true, false, List, [], ◌∷◌, ◌++◌, eqb, leb, ltb}
use Rattle.sums.specs.Sum.{tally}
use Rattle.paths.specs.Walk.{In}

-- what follows u on the path to v, in at most the given number of steps
unfoldable pub route : ℕ → (par dep : ℕ → ℕ) → ℕ → ℕ → List ℕ
route zero par dep u v = []
route (suc k) par dep u v =
    elim (eqb u v) [
      | true ↦ []
      | false ↦ elim (leb (dep v) (dep u)) [
        | true ↦ par u ∷ route k par dep (par u) v
        | false ↦ route k par dep u (par v) ++ (v ∷ [])
      ]
    ]

-- what follows u on the path from u to v
unfoldable pub ptail : (par dep : ℕ → ℕ) → ℕ → ℕ → List ℕ
ptail par dep u v = route (dep u + dep v) par dep u v

-- x is on the path from u to v
abbrev pub On : (par dep : ℕ → ℕ) → ℕ → ℕ → ℕ → Type 0
On par dep x u v = In x (u ∷ ptail par dep u v)

-- m is on each of the three paths between r, u and v
pub record Common (par dep : ℕ → ℕ) (r u v m : ℕ) : Type 0 where
  pub across : On par dep m u v
  pub to_first : On par dep m r u
  pub to_second : On par dep m r v

-- where the two ends meet, in at most the given number of steps
unfoldable pub meet : ℕ → (par dep : ℕ → ℕ) → ℕ → ℕ → ℕ
meet zero par dep u v = u
meet (suc k) par dep u v =
    elim (eqb u v) [
      | true ↦ u
      | false ↦ elim (leb (dep v) (dep u)) [
        | true ↦ meet k par dep (par u) v
        | false ↦ meet k par dep u (par v)
      ]
    ]

-- the deepest common ancestor of u and v
unfoldable pub top : (par dep : ℕ → ℕ) → ℕ → ℕ → ℕ
top par dep u v = meet (dep u + dep v) par dep u v

-- whether v is a child of u
abbrev pub child? : (par dep : ℕ → ℕ) → ℕ → ℕ → Bool
child? par dep u v = elim (ltb 0 (dep v)) [ true ↦ eqb (par v) u | false ↦ false ]

-- how often v stands in u's list in a tree: once if one is the other's child
abbrev pub links : (par dep : ℕ → ℕ) → ℕ → ℕ → ℕ
links par dep u v = tally (child? par dep u v) + tally (child? par dep v u)
