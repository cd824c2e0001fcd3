-- Which components a vertex lies in: its own, none of a higher level, and any other exactly if its parent does.
use Prim.Native.Nat.{ℕ, ◌≤◌, ◌<◌}
use native.Mathlib.Omega.{arith}
use native.Mathlib.Decide.{dec_le}
use mathlib.Core.Path.{◌≡◌, refl, sym, ◌∙◌}
use mathlib.Core.Logic.{◌≢◌, ◌↔◌}
use mathlib.Core.Bool.{true, false}
use mathlib.Core.List.{List}
use Rattle.paths.specs.Rooted.{Rooted}
use Rattle.paths.specs.Route.{ptail}
use Rattle.centroid.specs.Components.{component_of}
use Rattle.answers.proofs.Choices.{same_test, not_passed}
use Rattle.centroidlaws.proofs.Clear.{Clear, component_clear, clear_turn, clear_join, clear_last}
use Rattle.centroidlaws.proofs.Parents.{Decomposed, Parent}
use Rattle.centroidlaws.proofs.Parts.{one_of_level}

module _ {n : ℕ} {A : ℕ → List ℕ} {par dep up level : ℕ → ℕ} (D : Decomposed n A par dep up level) where
  -- a vertex lies in its own component
  pub own : {x : ℕ} → x < n → component_of (ptail par dep) level x x ≡ true
  own {x} hx = (D.centroids x hx).centroid.inside

  -- it lies in no component of a higher level
  pub lower : {c x : ℕ} → c < n → x < n → component_of (ptail par dep) level c x ≡ true → level c ≤ level x
  lower {c} {x} hc hx e = clear_last D.spans.rooted level (level c) hc hx ((component_clear par dep level (level c) c x).0 e)

  -- it lies in no other component of its own level
  pub only_own : {c x : ℕ} → c < n → x < n → c ≢ x → level x ≤ level c → component_of (ptail par dep) level c x ≡ false
  only_own {c} {x} hc hx ne h = not_passed _ (λ e.
      let l = lower hc hx e in
      ne (one_of_level D hc hx refl (omega arith) ((component_clear par dep level (level c) c x).0 e)))

  -- it lies in another component exactly if its parent does
  pub as_parent :
      {c x s : ℕ} → c < n → x < n → c ≢ x → Parent n par dep up level x s
      → component_of (ptail par dep) level c x ≡ component_of (ptail par dep) level c (up x)
  as_parent {c} {x} hc hx ne P =
      elim (dec_le (level x) (level c)) [
        | yes h ↦ only_own hc hx ne h ∙ sym (not_passed _ (λ e. let l = lower hc P.below e in let o = P.one_up in omega arith))
        | no h ↦ same_test _ _
            (λ e. pu.1 (clear_join R level (level c) hc hx P.below (px.0 e) (clear_turn R level (level c) P.below hx (low h))))
            (λ e. px.1 (clear_join R level (level c) hc P.below hx (pu.0 e) (low h)))
      ]
    where
      R : Rooted n 0 par dep
      R = D.spans.rooted

      px : (component_of (ptail par dep) level c x ≡ true) ↔ Clear par dep level (level c) c x
      px = component_clear par dep level (level c) c x

      pu : (component_of (ptail par dep) level c (up x) ≡ true) ↔ Clear par dep level (level c) c (up x)
      pu = component_clear par dep level (level c) c (up x)

      low : (level x ≤ level c → ⊥) → Clear par dep level (level c) (up x) x
      low h y i = let z = P.clear y i in let o = P.one_up in omega arith
