-- Between two vertices of a tree there is exactly one simple path, whatever root the tree is hung from.
use Prim.Native.Nat.{ℕ, ◌<◌}
use mathlib.Core.Path.{◌≡◌, refl, sym, ◌∙◌, ap}
use mathlib.Core.Logic.{◌⊎◌, inl, inr}
use mathlib.Core.List.{List, [], ◌∷◌}
use native.Mathlib.Omega.{arith}
use Rattle.paths.specs.Walk.{NoDup, Below, From, Simple}
use Rattle.paths.specs.Tree.{ExactlyOne}
use Rattle.paths.specs.Rooted.{Rooted, Spans, Child}
use Rattle.paths.specs.Route.{ptail, On}
use Rattle.paths.proofs.Listed.{from-append, from_last, in-below, out_not}
use Rattle.paths.proofs.Canon.{ptail_same, ptail_up, ptail_down, ends_ind, StepUp, StepDown}
use Rattle.paths.proofs.Above.{anc?}
use Rattle.paths.proofs.Steps.{path-below, path_once, leave, enter}

module _ {n root : ℕ} {par dep : ℕ → ℕ} (R : Rooted n root par dep) where
  -- where parent and child are joined both ways, the path is a walk
  pub path_walk :
      (E : ℕ → ℕ → Type 0)
      → ((v : ℕ) → v < n → 0 < dep v → E (par v) v)
      → ((v : ℕ) → v < n → 0 < dep v → E v (par v))
      → {u v : ℕ}
      → u < n
      → v < n
      → From E u v (ptail par dep u v)
  path_walk E down up {u} {v} hu hv = ends_ind R P same goes_up goes_down u v hu hv
    where
      P : ℕ → ℕ → Type 0
      P u v = From E u v (ptail par dep u v)

      same : (u : ℕ) → u < n → P u u
      same u hu = rw (ptail_same par dep u) refl

      goes_up : StepUp n par dep P
      goes_up u v hu hv d p q ih = rw (ptail_up R u v hu hv d q) (up u hu p, ih)

      goes_down : StepDown n par dep P
      goes_down u v hu hv q ih =
          rw (ptail_down R u v hv q)
          (from-append E u (par v) v (ptail par dep u (par v)) (v ∷ []) ih (down v hv (omega arith), refl))

  -- where parent and child are joined both ways, the path is a simple path
  pub path_simple_of :
      (E : ℕ → ℕ → Type 0)
      → ((v : ℕ) → v < n → 0 < dep v → E (par v) v)
      → ((v : ℕ) → v < n → 0 < dep v → E v (par v))
      → {u v : ℕ}
      → u < n
      → v < n
      → Simple n E u v (ptail par dep u v)
  path_simple_of E down up hu hv = record { walk = path_walk E down up hu hv; once = path_once R hu hv; below = path-below R hu hv }

  -- a neighbour whose path avoids a vertex is the next one on that vertex's path
  pub next_step :
      {u w v : ℕ} → u < n → w < n → v < n → Child par dep u w ⊎ Child par dep w u → (On par dep u w v → ⊥) → ptail par dep u v ≡ w ∷ ptail par dep w v
  next_step {u} {w} {v} hu hw hv (inr c) f = elim (anc? par dep u v) [
    | no g ↦ rw (← c.1) (leave R hu hv g)
    | yes a ↦ absurd (f (rw (← c.1, enter R hu hv c.0 a) (inr (inl refl))))
  ]
  next_step {u} {w} {v} hu hw hv (inl c) f = elim (anc? par dep w v) [
    | yes a ↦ rw (← c.1) (enter R hw hv c.0 a)
    | no g ↦ absurd (f (rw (leave R hw hv g) (inr (inl (sym c.1)))))
  ]

module _ {n : ℕ} {E : ℕ → ℕ → Type 0} {root : ℕ} {par dep : ℕ → ℕ} (S : Spans n E root par dep) where
  -- the path is a simple path of the tree
  pub path_simple : {u v : ℕ} → u < n → v < n → Simple n E u v (ptail par dep u v)
  path_simple hu hv = path_simple_of S.rooted E S.down S.up hu hv

  -- a walk without repeats is the path
  walk_unique : {v : ℕ} → v < n → (u : ℕ) (P : List ℕ) → From E u v P → NoDup (u ∷ P) → Below n (u ∷ P) → P ≡ ptail par dep u v
  walk_unique {v} hv u [] e d b = rw (e, ptail_same par dep v)
  walk_unique {v} hv u (w ∷ P) f d b =
      let ih : P ≡ ptail par dep w v = walk_unique hv w P f.1 d.1 b.1 in
      let o : On par dep u w v → ⊥ = λ h. out_not u (w ∷ P) d.0 (rw ih h) in
      ap (λ (l : List ℕ). w ∷ l) ih ∙ sym (next_step S.rooted b.0 b.1.0 hv (S.only u w b.0 b.1.0 f.0) o)

  -- a simple path of the tree is the path
  pub path_unique : {u v : ℕ} {P : List ℕ} → Simple n E u v P → P ≡ ptail par dep u v
  path_unique {u} {v} {P} s =
      walk_unique (in-below n v (u ∷ P) s.below (from_last E u v P s.walk)) u P s.walk s.once s.below

  -- two vertices are joined by exactly one simple path
  pub exactly-one : {u v : ℕ} → u < n → v < n → ExactlyOne (Simple n E u v)
  exactly-one {u} {v} hu hv = (ptail par dep u v, path_simple hu hv, λ Q s. path_unique s)

-- the path does not depend on the root
pub root_free :
    {n : ℕ} {E : ℕ → ℕ → Type 0} {root root' : ℕ} {par dep par' dep' : ℕ → ℕ}
    → Spans n E root par dep
    → Spans n E root' par' dep'
    → {u v : ℕ}
    → u < n
    → v < n
    → ptail par dep u v ≡ ptail par' dep' u v
root_free S S' hu hv = path_unique S' (path_simple S hu hv)
