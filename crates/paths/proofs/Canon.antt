-- The path between two vertices of a rooted tree: its equations, and the induction along it.
use Prim.Native.Nat.{ℕ, zero, suc, ◌+◌, ◌<◌, ◌≤◌}
use mathlib.Core.Path.{◌≡◌, refl, sym, ◌∙◌, ap, subst}
use mathlib.Core.Logic.{◌≢◌}
use mathlib.Core.List.{[], ◌∷◌, ◌++◌}
use native.Mathlib.Omega.{arith}
use native.Mathlib.Decide.{dec_le, ℕ_discrete}
use borrow.Author.Tests.{eq-eqb, ne_eqb, le-leb, lt-leb}
use Rattle.paths.specs.Rooted.{Rooted}
use Rattle.paths.specs.Route.{route, ptail, meet, top}

-- however many steps are allowed, none is taken between equal ends
route_same : (k : ℕ) (par dep : ℕ → ℕ) (u : ℕ) → route k par dep u u ≡ []
unfolding route
route_same zero par dep u = refl
route_same (suc k) par dep u = rw (eq-eqb u u refl, route)

-- the path from a vertex to itself has nothing after it
pub ptail_same : (par dep : ℕ → ℕ) (u : ℕ) → ptail par dep u u ≡ []
unfolding ptail
ptail_same par dep u = route_same (dep u + dep u) par dep u

-- however many steps are allowed, equal ends meet at once
meet_same : (k : ℕ) (par dep : ℕ → ℕ) (u : ℕ) → meet k par dep u u ≡ u
unfolding meet
meet_same zero par dep u = refl
meet_same (suc k) par dep u = rw (eq-eqb u u refl, meet)

-- a vertex is its own deepest common ancestor
pub top_same : (par dep : ℕ → ℕ) (u : ℕ) → top par dep u u ≡ u
unfolding top
top_same par dep u = meet_same (dep u + dep u) par dep u

-- P holds of u and v if it holds after a step up of u, the deeper end
abbrev pub StepUp : ℕ → (par dep : ℕ → ℕ) → (ℕ → ℕ → Type 0) → Type 0
StepUp n par dep P = (u v : ℕ) → u < n → v < n → u ≢ v → 0 < dep u → dep v ≤ dep u → P (par u) v → P u v

-- P holds of u and v if it holds after a step up of v, the deeper end
abbrev pub StepDown : ℕ → (par dep : ℕ → ℕ) → (ℕ → ℕ → Type 0) → Type 0
StepDown n par dep P = (u v : ℕ) → u < n → v < n → dep u < dep v → P u (par v) → P u v

-- a shallower vertex is another one
pub depth_ne : (dep : ℕ → ℕ) (u v : ℕ) → dep u < dep v → u ≢ v
depth_ne dep u v h e = let z = ap dep e in omega arith

module _ {n root : ℕ} {par dep : ℕ → ℕ} (R : Rooted n root par dep) where
  -- of two vertices that differ, the one no shallower is not the root
  pub deeper_pos : {u v : ℕ} → u < n → v < n → u ≢ v → dep v ≤ dep u → 0 < dep u
  deeper_pos {u} {v} hu hv d h = elim (dec_le 1 (dep u)) [
    | yes p ↦ p
    | no q ↦ absurd (d (R.one_root u hu (omega arith) ∙ sym (R.one_root v hv (omega arith))))
  ]

  -- a step up of the first end is one step less to take
  fuel_up : {u v : ℕ} → u < n → v < n → u ≢ v → dep v ≤ dep u → dep u + dep v ≡ suc (dep (par u) + dep v)
  fuel_up {u} {v} hu hv d h = let z = R.par_dep u hu (deeper_pos hu hv d h) in omega arith

  -- a step up of the last end is one step less to take
  fuel_down : (u : ℕ) {v : ℕ} → v < n → dep u < dep v → dep u + dep v ≡ suc (dep u + dep (par v))
  fuel_down u {v} hv h = let z = R.par_dep v hv (omega arith) in omega arith

  -- the deeper end, if it is the first, steps up
  pub ptail_up : (u v : ℕ) → u < n → v < n → u ≢ v → dep v ≤ dep u → ptail par dep u v ≡ par u ∷ ptail par dep (par u) v
  unfolding ptail route
  ptail_up u v hu hv d h = rw (fuel_up hu hv d h, ne_eqb u v d, le-leb (dep v) (dep u) h, route)

  -- the deeper end, if it is the last, steps up
  pub ptail_down : (u v : ℕ) → v < n → dep u < dep v → ptail par dep u v ≡ ptail par dep u (par v) ++ (v ∷ [])
  unfolding ptail route
  ptail_down u v hv h = rw (fuel_down u hv h, ne_eqb u v (depth_ne dep u v h), lt-leb (dep v) (dep u) h, route)

  -- a step up of the first end, the deeper, keeps the deepest common ancestor
  pub top_up : (u v : ℕ) → u < n → v < n → u ≢ v → dep v ≤ dep u → top par dep u v ≡ top par dep (par u) v
  unfolding top meet
  top_up u v hu hv d h = rw (fuel_up hu hv d h, ne_eqb u v d, le-leb (dep v) (dep u) h, meet)

  -- a step up of the last end, the deeper, keeps the deepest common ancestor
  pub top_down : (u v : ℕ) → v < n → dep u < dep v → top par dep u v ≡ top par dep u (par v)
  unfolding top meet
  top_down u v hv h = rw (fuel_down u hv h, ne_eqb u v (depth_ne dep u v h), lt-leb (dep v) (dep u) h, meet)

  -- what holds of equal ends, and at a step of the deeper end if it holds after the step, holds of all pairs
  pub ends_ind :
      (P : ℕ → ℕ → Type 0)
      → ((u : ℕ) → u < n → P u u)
      → StepUp n par dep P
      → StepDown n par dep P
      → (u v : ℕ)
      → u < n
      → v < n
      → P u v
  ends_ind P same up down u v hu hv = go (dep u + dep v) u v hu hv (omega arith)
    where
      go : (k u v : ℕ) → u < n → v < n → dep u + dep v ≤ k → P u v
      go zero u v hu hv h = subst (P u) (R.one_root u hu (omega arith) ∙ sym (R.one_root v hv (omega arith))) (same u hu)
      go (suc k) u v hu hv h = elim (ℕ_discrete u v) [
        | yes e ↦ subst (P u) e (same u hu)
        | no d ↦ elim (dec_le (dep v) (dep u)) [
          | yes q ↦
              let p = deeper_pos hu hv d q in
              let z = R.par_dep u hu p in
              up u v hu hv d p q (go k (par u) v (R.par_below u hu p) hv (omega arith))
          | no q ↦
              let z = R.par_dep v hv (omega arith) in
              down u v hu hv (omega arith) (go k u (par v) hu (R.par_below v hv (omega arith)) (omega arith))
        ]
      ]

  -- what holds of the root, and of any other vertex if it holds of its parent, holds of all vertices
  pub root_ind :
      (P : ℕ → Type 0)
      → P root
      → ((v : ℕ) → v < n → 0 < dep v → P (par v) → P v)
      → (v : ℕ)
      → v < n
      → P v
  root_ind P start step v hv = go (dep v) v hv (omega arith)
    where
      go : (k v : ℕ) → v < n → dep v ≤ k → P v
      go zero v hv h = subst P (sym (R.one_root v hv (omega arith))) start
      go (suc k) v hv h = elim (dec_le 1 (dep v)) [
        | yes p ↦ let z = R.par_dep v hv p in step v hv p (go k (par v) (R.par_below v hv p) (omega arith))
        | no q ↦ subst P (sym (R.one_root v hv (omega arith))) start
      ]
