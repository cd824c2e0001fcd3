-- The path read backwards is the path back.
use Prim.Native.Nat.{ℕ, ◌<◌}
use mathlib.Core.Path.{◌≡◌, sym, ap, subst}
use mathlib.Core.Logic.{inl, inr, ◌≢◌}
use mathlib.Core.List.{List, [], ◌∷◌, reverse, reverse-cons, reverse-append}
use native.Mathlib.Omega.{arith}
use lib.ListN.{length, length-reverse}
use Rattle.paths.specs.Walk.{In}
use Rattle.paths.specs.Rooted.{Rooted, Anc}
use Rattle.paths.specs.Route.{ptail, On}
use Rattle.paths.proofs.Listed.{in_last, in_left}
use Rattle.paths.proofs.Canon.{depth_ne, ptail_same, ptail_up, ptail_down, ends_ind, StepUp, StepDown}
use Rattle.paths.proofs.Above.{anc_same}
use Rattle.paths.proofs.Steps.{arrive}

-- what stands in a list stands in it reversed
pub in-reverse : (x : ℕ) (l : List ℕ) → In x l → In x (reverse l)
in-reverse x [] h = absurd h
in-reverse x (y ∷ l) (inl e) = rw (reverse-cons y l, e) (in_last y (reverse l))
in-reverse x (y ∷ l) (inr h) = rw (reverse-cons y l) (in_left x (reverse l) (y ∷ []) (in-reverse x l h))

module _ {n root : ℕ} {par dep : ℕ → ℕ} (R : Rooted n root par dep) where
  -- the path reversed is the path the other way
  pub turn : {u v : ℕ} → u < n → v < n → reverse (u ∷ ptail par dep u v) ≡ v ∷ ptail par dep v u
  turn {u} {v} hu hv = ends_ind R P same up down u v hu hv
    where
      P : ℕ → ℕ → Type 0
      P u v = reverse (u ∷ ptail par dep u v) ≡ v ∷ ptail par dep v u

      same : (u : ℕ) → u < n → P u u
      same u hu = rw (ptail_same par dep u)

      up : StepUp n par dep P
      up u v hu hv d p q ih =
          let f : Anc par dep u v → ⊥ = λ a. d (anc_same par dep u v a (omega arith)) in
          rw (reverse-cons, ptail_up R u v hu hv d q, ih, arrive R hv hu f)

      down : StepDown n par dep P
      down u v hu hv q ih =
          let d : v ≢ u = λ e. depth_ne dep u v q (sym e) in
          rw (ptail_down R u v hv q, reverse-append (u ∷ ptail par dep u (par v)) (v ∷ []), ih, ptail_up R v u hv hu d (omega arith))

  -- a vertex on a path is on the path back
  pub on_turn : (x : ℕ) {u v : ℕ} → u < n → v < n → On par dep x u v → On par dep x v u
  on_turn x {u} {v} hu hv h = subst (In x) (turn hu hv) (in-reverse x (u ∷ ptail par dep u v) h)

  -- the path back is as long
  pub length_turn : {u v : ℕ} → u < n → v < n → length (ptail par dep u v) ≡ length (ptail par dep v u)
  length_turn {u} {v} hu hv =
      let e = ap length (turn hu hv) in
      let f = length-reverse (u ∷ ptail par dep u v) in
      omega arith
