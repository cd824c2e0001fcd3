-- Paths that avoid a vertex, and the parts that a component falls into when a vertex is removed.
use Prim.Native.Nat.{ℕ}
use mathlib.Core.Path.{◌≡◌, refl, ap, subst}
use mathlib.Core.Bool.{Bool, true, false, not}
use mathlib.Core.List.{List, ◌∷◌}
use lib.Dec.{eqb}
use Rattle.paths.specs.Walk.{In}
use Rattle.paths.specs.Route.{ptail, On}
use Rattle.answers.specs.Choice.{all?}
use Rattle.centroid.specs.Components.{in_part}
use Rattle.answers.proofs.Choices.{both_true, all_in, in_all, not_passed}
use Rattle.centroid.proofs.Tests.{other_true, other_ne, passed_not_failed}

-- the path from u to w avoids v
abbrev pub avoids : (way : ℕ → ℕ → List ℕ) → ℕ → ℕ → ℕ → Bool
avoids way v u w = all? (λ y. not (eqb y v)) (u ∷ way u w)

-- a path that avoids v does not meet it
pub avoids_off : (par dep : ℕ → ℕ) (v u w : ℕ) → avoids (ptail par dep) v u w ≡ true → On par dep v u w → ⊥
avoids_off par dep v u w e h = other_ne v v (all_in (λ y. not (eqb y v)) v (u ∷ ptail par dep u w) e h) refl

-- a path that does not meet v avoids it
pub off_avoids : (par dep : ℕ → ℕ) (v u w : ℕ) → (On par dep v u w → ⊥) → avoids (ptail par dep) v u w ≡ true
off_avoids par dep v u w f =
    in_all (λ y. not (eqb y v)) (u ∷ ptail par dep u w) (λ y h. other_true v y (λ e. f (subst (λ (z : ℕ). In z (u ∷ ptail par dep u w)) e h)))

-- the path goes through v
abbrev pub meets : (way : ℕ → ℕ → List ℕ) → ℕ → ℕ → ℕ → Bool
meets way v u w = not (avoids way v u w)

-- a path that v is on goes through it
pub on_meets : (par dep : ℕ → ℕ) (v u w : ℕ) → On par dep v u w → meets (ptail par dep) v u w ≡ true
on_meets par dep v u w h = ap not (not_passed (avoids (ptail par dep) v u w) (λ e. avoids_off par dep v u w e h))

-- a path that v is not on does not
pub off_meets : (par dep : ℕ → ℕ) (v u w : ℕ) → (On par dep v u w → ⊥) → meets (ptail par dep) v u w ≡ false
off_meets par dep v u w f = ap not (off_avoids par dep v u w f)

-- what goes through v meets it
pub meets_on : (par dep : ℕ → ℕ) (v u w : ℕ) → meets (ptail par dep) v u w ≡ true → (On par dep v u w → ⊥) → ⊥
meets_on par dep v u w e f = passed_not_failed e (off_meets par dep v u w f)

module _ (way : ℕ → ℕ → List ℕ) (C : ℕ → Bool) (v w x : ℕ) where
  -- a vertex of a part is reached without v
  pub part_avoids : in_part way C v w x ≡ true → avoids way v w x ≡ true
  part_avoids e = (both_true (C x) (avoids way v w x) e).1

  -- inside the component, that is all it says
  pub in-part : C x ≡ true → in_part way C v w x ≡ avoids way v w x
  in-part e = rw (e, in_part) refl

  -- outside there is no part
  pub out-part : C x ≡ false → in_part way C v w x ≡ false
  out-part e = rw (e, in_part) refl
