-- A component has one centroid from a start, whichever test tells it.
use Prim.Native.Nat.{ℕ, ◌<◌}
use native.Mathlib.Omega.{arith}
use mathlib.Core.Path.{◌≡◌, refl, sym, ◌∙◌}
use mathlib.Core.Bool.{Bool}
use mathlib.Core.List.{List}
use Rattle.sums.proofs.Sums.{equal_or_not}
use Rattle.centroid.specs.Components.{CentroidFrom}
use Rattle.centroid.proofs.Ways.{SameSet, halves_same}

-- two centroids of one component from one start are equal
pub centroid-one :
    (n : ℕ) (way : ℕ → ℕ → List ℕ) (C C' : ℕ → Bool) → SameSet n C C' → {s c d : ℕ} → c < n → d < n
    → CentroidFrom n way C s c → CentroidFrom n way C' s d → c ≡ d
centroid-one n way C C' same {s} {c} {d} hc hd a b =
    equal_or_not c d (λ e. e) (λ ne.
    let there = halves_same n way way C C' (λ u v hu hv. refl) same c a.halves in
    let back = halves_same n way way C' C (λ u v hu hv. refl) (λ x h. sym (same x h)) d b.halves in
    let p = a.nearer d hd (same d hd ∙ b.inside) (λ e. ne (sym e)) back in
    let q = b.nearer c hc (sym (same c hc) ∙ a.inside) ne there in
    absurd (omega arith))
