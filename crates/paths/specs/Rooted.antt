-- A rooted tree, said by each vertex's parent and depth. "Not the root" is said as 0 < dep v.
use Rattle.std.specs.Prelude.{ℕ, zero, suc, ◌+◌, ◌<◌, ◌≡◌, ◌⊎◌}

-- the root alone has depth 0; the parent of any other vertex is one less deep
pub record Rooted (n root : ℕ) (par dep : ℕ → ℕ) : Type 0 where
  pub root_below : root < n
  pub root_top : dep root ≡ 0
  pub one_root : (v : ℕ) → v < n → dep v ≡ 0 → v ≡ root
  pub par_below : (v : ℕ) → v < n → 0 < dep v → par v < n
  pub par_dep : (v : ℕ) → v < n → 0 < dep v → dep (par v) + 1 ≡ dep v

-- v is a child of u
abbrev pub Child : (par dep : ℕ → ℕ) → ℕ → ℕ → Type 0
Child par dep u v = (0 < dep v) × (par v ≡ u)

-- a rooted tree whose links are exactly the pairs of E
pub record Spans (n : ℕ) (E : ℕ → ℕ → Type 0) (root : ℕ) (par dep : ℕ → ℕ) : Type 0 where
  pub rooted : Rooted n root par dep
  pub down : (v : ℕ) → v < n → 0 < dep v → E (par v) v
  pub up : (v : ℕ) → v < n → 0 < dep v → E v (par v)
  pub only : (u v : ℕ) → u < n → v < n → E u v → Child par dep u v ⊎ Child par dep v u

-- k steps towards the root
abbrev pub climb : (ℕ → ℕ) → ℕ → ℕ → ℕ
climb par zero v = v
climb par (suc k) v = climb par k (par v)

-- x is an ancestor of v, or v itself: k steps above it
abbrev pub Anc : (par dep : ℕ → ℕ) → ℕ → ℕ → Type 0
Anc par dep x v = (k : ℕ) × (k + dep x ≡ dep v) × (climb par k v ≡ x)
