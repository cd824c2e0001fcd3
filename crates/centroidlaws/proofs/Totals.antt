-- Each vertex lies in one component of each level up to its own, so all components together have the sum of level + 1 over the vertices.
use Prim.Native.Nat.{ℕ, zero, suc, ◌+◌, ◌<◌}
use native.Mathlib.Omega.{arith}
use mathlib.Core.Path.{◌≡◌, refl, ap, ◌∙◌}
use mathlib.Core.Bool.{false}
use mathlib.Core.List.{List}
use Rattle.sums.specs.Sum.{at, tally, sum, how_many}
use Rattle.sums.proofs.Sums.{sum_ext, sum_zeros, sum_swap, sum_change}
use Rattle.paths.specs.Walk.{Stands}
use Rattle.paths.specs.Rooted.{Spans}
use Rattle.paths.specs.Route.{ptail}
use Rattle.centroid.specs.Components.{component_of}
use Rattle.centroid.specs.Decomposition.{DecompositionOf}
use Rattle.answers.proofs.Choices.{not_passed}
use Rattle.centroidlaws.proofs.Parents.{Decomposed, decomposed, parent}
use Rattle.centroidlaws.proofs.Inside.{own, lower, only_own, as_parent}

module _ {n : ℕ} {A : ℕ → List ℕ} {par dep up level : ℕ → ℕ} (D : Decomposed n A par dep up level) where
  -- a vertex of level k lies in k + 1 components
  pub components_of : (k : ℕ) {x : ℕ} → x < n → level x ≡ k → how_many n (λ c. component_of (ptail par dep) level c x) ≡ k + 1
  components_of zero {x} hx e =
      sum_change n x 1 (λ c. 0) (λ c. tally (component_of (ptail par dep) level c x)) hx (ap tally (own D hx))
      (λ c hc ne. ap tally (only_own D hc hx ne (omega arith)))
      ∙ omega (arith, sum_zeros n)
  components_of (suc k) {x} hx e =
      let P = (parent D hx (omega arith)).1 in
      let o = P.one_up in
      let ih = components_of k P.below (omega arith) in
      let none : component_of (ptail par dep) level x (up x) ≡ false = not_passed _ (λ q. let l = lower D hx P.below q in omega arith) in
      let a = ap tally none in
      let b = ap tally (own D hx) in
      sum_change n x 1 (λ c. tally (component_of (ptail par dep) level c (up x))) (λ c. tally (component_of (ptail par dep) level c x)) hx
      (omega arith) (λ c hc ne. ap tally (as_parent D hc hx ne P))
      ∙ omega arith

  -- all components together
  pub all_components : sum n (λ c. how_many n (component_of (ptail par dep) level c)) ≡ sum n (λ v. level v + 1)
  all_components =
      sum_swap n n (λ c x. tally (component_of (ptail par dep) level c x))
      ∙ sum_ext n (λ x. how_many n (λ c. component_of (ptail par dep) level c x)) (λ v. level v + 1) (λ x hx. components_of (level x) hx refl)

-- the sizes of the components of a decomposition add up to the sum of level + 1
pub components-total :
    {n : ℕ} {A : ℕ → List ℕ} {par dep : ℕ → ℕ} {up level : List ℕ}
    → Spans n (Stands A) 0 par dep → DecompositionOf n A up level
    → sum n (λ c. how_many n (component_of (ptail par dep) (at level) c)) ≡ sum n (λ v. at level v + 1)
components-total S D = all_components (decomposed S D)
