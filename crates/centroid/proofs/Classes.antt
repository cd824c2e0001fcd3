-- Vertices joined by a path whose vertices all pass a test: an equivalence among those that pass.
use Prim.Native.Nat.{ℕ, ◌<◌}
use mathlib.Core.Path.{◌≡◌, refl, ap, ◌∙◌}
use mathlib.Core.Logic.{inl, ⊎_elim}
use mathlib.Core.Bool.{Bool, true}
use mathlib.Core.List.{◌∷◌}
use Rattle.paths.specs.Rooted.{Rooted}
use Rattle.paths.specs.Route.{ptail, On}
use Rattle.paths.proofs.Steps.{on_same, on_last, on_below}
use Rattle.paths.proofs.Turn.{on_turn}
use Rattle.paths.proofs.Cut.{cover, on_first-part}
use Rattle.centroid.specs.Search.{joined_by}
use Rattle.answers.proofs.Choices.{all_in, in_all, all_same, same_test}

module _ {n root : ℕ} {par dep : ℕ → ℕ} (R : Rooted n root par dep) where
  -- each vertex on the path passes
  pub joined_on : (g : ℕ → Bool) (s x y : ℕ) → joined_by (ptail par dep) g s x ≡ true → On par dep y s x → g y ≡ true
  joined_on g s x y e h = all_in g y (s ∷ ptail par dep s x) e h

  -- where each vertex on the path passes, its ends are joined
  pub on-joined : (g : ℕ → Bool) (s x : ℕ) → ((y : ℕ) → On par dep y s x → g y ≡ true) → joined_by (ptail par dep) g s x ≡ true
  on-joined g s x f = in_all g (s ∷ ptail par dep s x) f

  -- a vertex that passes is joined to itself
  pub joined_self : (g : ℕ → Bool) (s : ℕ) → g s ≡ true → joined_by (ptail par dep) g s s ≡ true
  joined_self g s e = on-joined g s s (λ y h. ap g (on_same par dep y s h) ∙ e)

  -- the ends pass
  pub joined_first : (g : ℕ → Bool) (s x : ℕ) → joined_by (ptail par dep) g s x ≡ true → g s ≡ true
  joined_first g s x e = joined_on g s x s e (inl refl)

  -- the last vertex passes
  pub joined_last : (g : ℕ → Bool) {s x : ℕ} → s < n → x < n → joined_by (ptail par dep) g s x ≡ true → g x ≡ true
  joined_last g {s} {x} hs hx e = joined_on g s x x e (on_last R hs hx)

  -- the other way round
  pub joined_turn : (g : ℕ → Bool) {s x : ℕ} → s < n → x < n → joined_by (ptail par dep) g s x ≡ true → joined_by (ptail par dep) g x s ≡ true
  joined_turn g {s} {x} hs hx e = on-joined g x s (λ y h. joined_on g s x y e (on_turn R y hx hs h))

  -- by way of a third
  pub joined_trans : (g : ℕ → Bool) {s x y : ℕ} → s < n → x < n → y < n → joined_by (ptail par dep) g s x ≡ true → joined_by (ptail par dep) g x y ≡ true
      → joined_by (ptail par dep) g s y ≡ true
  joined_trans g {s} {x} {y} hs hx hy e f = on-joined g s y (λ z h. ⊎_elim (joined_on g s x z e) (joined_on g x y z f) (cover R z hs hy hx h))

  -- a vertex on the path is joined to its first end
  pub joined-part : (g : ℕ → Bool) {s x : ℕ} (y : ℕ) → s < n → x < n → joined_by (ptail par dep) g s x ≡ true → On par dep y s x → joined_by (ptail par dep) g s y ≡ true
  joined-part g {s} {x} y hs hx e h = on-joined g s y (λ z k. joined_on g s x z e (on_first-part R y z hs hx h k))

  -- joined vertices have the same class
  pub same_class : (g : ℕ → Bool) {s c : ℕ} → s < n → c < n → joined_by (ptail par dep) g s c ≡ true → (x : ℕ) → x < n
      → joined_by (ptail par dep) g s x ≡ joined_by (ptail par dep) g c x
  same_class g {s} {c} hs hc e x hx =
      same_test _ _ (λ f. joined_trans g hc hs hx (joined_turn g hs hc e) f) (λ f. joined_trans g hs hc hx e f)

  -- tests that agree on the vertices join the same
  pub joined_same : (g g' : ℕ → Bool) {s x : ℕ} → s < n → x < n → ((y : ℕ) → y < n → g y ≡ g' y) → joined_by (ptail par dep) g s x ≡ joined_by (ptail par dep) g' s x
  joined_same g g' {s} {x} hs hx f = all_same g g' (s ∷ ptail par dep s x) (λ y h. f y (on_below R y hs hx h))

  -- a weaker test joins more
  pub joined_weaker : (g g' : ℕ → Bool) {s x : ℕ} → s < n → x < n → ((y : ℕ) → y < n → g y ≡ true → g' y ≡ true) → joined_by (ptail par dep) g s x ≡ true
      → joined_by (ptail par dep) g' s x ≡ true
  joined_weaker g g' {s} {x} hs hx f e = on-joined g' s x (λ y h. f y (on_below R y hs hx h) (joined_on g s x y e h))
