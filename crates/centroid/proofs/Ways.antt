-- A tree has one way of simple paths below n, so what holds by one way, as by that of one rooting, holds by every way.
use Prim.Native.Nat.{ℕ, ◌<◌}
use native.Mathlib.Omega.{arith}
use mathlib.Core.Path.{◌≡◌, sym, ap, ap₂, ◌∙◌}
use mathlib.Core.Bool.{Bool, not}
use mathlib.Core.List.{List, ◌∷◌}
use lib.Dec.{eqb, leb}
use lib.ListN.{length}
use Rattle.sums.proofs.Images.{how_many_same}
use Rattle.paths.specs.Walk.{Stands}
use Rattle.paths.specs.Rooted.{Spans}
use Rattle.paths.specs.Route.{ptail}
use Rattle.paths.proofs.Unique.{path_simple, path_unique}
use Rattle.answers.specs.Choice.{both, all?}
use Rattle.centroid.specs.Components.{Ways, component_of, in_part, Halves, CentroidFrom}
use Rattle.centroid.specs.Decomposition.{CentroidAt}

-- the two ways agree on the vertices
abbrev pub SameWay : ℕ → (way way' : ℕ → ℕ → List ℕ) → Type 0
SameWay n way way' = (u v : ℕ) → u < n → v < n → way u v ≡ way' u v

-- the two tests agree on the vertices
abbrev pub SameSet : ℕ → (C C' : ℕ → Bool) → Type 0
SameSet n C C' = (x : ℕ) → x < n → C x ≡ C' x

module _ {n root : ℕ} {A : ℕ → List ℕ} {par dep : ℕ → ℕ} (S : Spans n (Stands A) root par dep) where
  -- the paths of a rooting are such a way
  pub span_ways : Ways n A (ptail par dep)
  span_ways = record { simple = λ hu hv. path_simple S hu hv }

  -- and every way agrees with it
  pub ways_same : {way : ℕ → ℕ → List ℕ} → Ways n A way → SameWay n (ptail par dep) way
  ways_same W u v hu hv = sym (path_unique S (W.simple hu hv))

-- components are the same by ways that agree
pub component_same :
    (n : ℕ) (way way' : ℕ → ℕ → List ℕ) → SameWay n way way' → (level : ℕ → ℕ) {c : ℕ} → c < n
    → SameSet n (component_of way level c) (component_of way' level c)
component_same n way way' ways level {c} hc x hx = ap (λ (l : List ℕ). all? (λ y. leb (level c) (level y)) (c ∷ l)) (ways c x hc hx)

module _ (n : ℕ) (way way' : ℕ → ℕ → List ℕ) (C C' : ℕ → Bool) (ways : SameWay n way way') (same : SameSet n C C') where
  -- so are the parts of components that agree
  pub part_same : (v : ℕ) {w x : ℕ} → w < n → x < n → in_part way C v w x ≡ in_part way' C' v w x
  part_same v {w} {x} hw hx =
      ap₂ (λ (b : Bool) (l : List ℕ). both b (all? (λ y. not (eqb y v)) (w ∷ l))) (same x hx) (ways w x hw hx)

  -- what halves the one halves the other
  pub halves_same : (v : ℕ) → Halves n way C v → Halves n way' C' v
  halves_same v h w hw e d =
      let l = h w hw (same w hw ∙ e) d in
      let part = how_many_same n (in_part way C v w) (in_part way' C' v w) (λ x hx. part_same v hw hx) in
      let whole = how_many_same n C C' same in
      omega arith

module _ (n : ℕ) (way way' : ℕ → ℕ → List ℕ) (C C' : ℕ → Bool) (ways : SameWay n way way') (same : SameSet n C C') where
  -- and the centroid is the same
  pub centroid_same : {s c : ℕ} → s < n → c < n → CentroidFrom n way C s c → CentroidFrom n way' C' s c
  centroid_same {s} {c} hs hc f =
      record {
        inside = sym (same c hc) ∙ f.inside;
        start_inside = sym (same s hs) ∙ f.start_inside;
        halves = halves_same n way way' C C' ways same c f.halves;
        nearer = λ y hy cy ne h.
            (let back = halves_same n way' way C' C (λ u v hu hv. sym (ways u v hu hv)) (λ x hx. sym (same x hx)) y h in
            let l = f.nearer y hy (same y hy ∙ cy) ne back in
            omega (arith, ap length (ways s c hs hc), ap length (ways s y hs hy)));
      }

-- what is shown of a vertex by the paths of one rooting holds by every way
pub centroid_ways :
    {n root : ℕ} {A : ℕ → List ℕ} {par dep up level : ℕ → ℕ} {way : ℕ → ℕ → List ℕ} {c : ℕ} → Spans n (Stands A) root par dep → Ways n A way → c < n
    → CentroidAt n A (ptail par dep) up level c → CentroidAt n A way up level c
centroid_ways {n} {par = par} {dep = dep} {level = level} {way = way} {c = c} S W hc a =
    let ways : SameWay n (ptail par dep) way = ways_same S W in
    record {
      start = a.start;
      start_below = a.start_below;
      began = a.began;
      centroid = centroid_same n (ptail par dep) way (component_of (ptail par dep) level c) (component_of way level c) ways
          (component_same n (ptail par dep) way ways level hc) a.start_below hc a.centroid;
    }
