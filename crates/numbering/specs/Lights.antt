-- The light edges between a vertex and the root: how often the way up leaves a chain for the parent of its head.
use Rattle.std.specs.Prelude.{ℕ, zero, suc, ltb, true, false}

-- the chains left on the way up from v, in at most the given number of steps
unfoldable pub chains_left : ℕ → (par dep head : ℕ → ℕ) → ℕ → ℕ
chains_left zero par dep head v = 0
chains_left (suc k) par dep head v = elim (ltb 0 (dep (head v))) [
  | true ↦ suc (chains_left k par dep head (par (head v)))
  | false ↦ 0
]

-- the light edges above v
unfoldable pub lights : (par dep head : ℕ → ℕ) → ℕ → ℕ
lights par dep head v = chains_left (dep v) par dep head v
