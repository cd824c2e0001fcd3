-- The parent of a centroid is one level up and joined to it; going on up, each component of a level holds a centroid of that level.
use Prim.Native.Nat.{ℕ, zero, suc, ◌+◌, ◌<◌}
use native.Mathlib.Omega.{arith}
use mathlib.Core.Path.{◌≡◌}
use mathlib.Core.List.{List}
use Rattle.paths.specs.Walk.{In, Stands}
use Rattle.paths.specs.Rooted.{Spans}
use Rattle.paths.specs.Route.{ptail}
use Rattle.centroid.specs.Components.{component_of, CentroidFrom}
use Rattle.centroid.specs.Decomposition.{Began, first, next, CentroidAt, DecompositionOf}
use Rattle.centroid.proofs.Ways.{span_ways}
use Rattle.centroidlaws.proofs.Clear.{Clear, Linked, component_clear, clear_self, clear_turn, clear_join, clear_link, clear_last}
use Rattle.sums.specs.Sum.{at}

-- a tree hung from 0 with its decomposition: each vertex is the centroid of its component
pub record Decomposed (n : ℕ) (A : ℕ → List ℕ) (par dep up level : ℕ → ℕ) : Type 0 where
  pub spans : Spans n (Stands A) 0 par dep
  pub centroids : (c : ℕ) → c < n → CentroidAt n A (ptail par dep) up level c

-- the two tables give such a decomposition
pub decomposed :
    {n : ℕ} {A : ℕ → List ℕ} {up level : List ℕ} {par dep : ℕ → ℕ} → Spans n (Stands A) 0 par dep → DecompositionOf n A up level
    → Decomposed n A par dep (at up) (at level)
decomposed {par = par} {dep = dep} S D = record { spans = S; centroids = D.centroids (ptail par dep) (span_ways S) }

-- the parent of c is a vertex, a neighbour of the start s, one level up, and joined to c
pub record Parent (n : ℕ) (par dep up level : ℕ → ℕ) (c s : ℕ) : Type 0 where
  pub below : up c < n
  pub linked : Linked par dep (up c) s
  pub one_up : level c ≡ level (up c) + 1
  pub clear : Clear par dep level (level (up c)) (up c) c

module _ {n : ℕ} {A : ℕ → List ℕ} {par dep up level : ℕ → ℕ} (D : Decomposed n A par dep up level) where
  -- the start is joined to the centroid
  pub start_clear : {c s : ℕ} → CentroidFrom n (ptail par dep) (component_of (ptail par dep) level c) s c → Clear par dep level (level c) c s
  start_clear {c} {s} a = (component_clear par dep level (level c) c s).0 a.start_inside

  -- a centroid whose search began at a neighbour of its parent
  pub parent_of :
      {c s : ℕ} → c < n → s < n → up c < n → In s (A (up c)) → level c ≡ level (up c) + 1
      → Clear par dep level (level c) c s → Parent n par dep up level c s
  parent_of {c} {s} hc hs hp i e a =
      let R = D.spans.rooted in
      let l = D.spans.only (up c) s hp hs i in
      let k : ℕ = level (up c) in
      let low : Clear par dep level k s c = λ y j. (let z = clear_turn R level (level c) hc hs a y j in omega arith) in
      let z = clear_last R level (level c) hc hs a in
      record {
        below = hp;
        linked = l;
        one_up = e;
        clear = clear_join R level k hp hs hc (clear_link R level k hp hs l (omega arith) (omega arith)) low;
      }

  -- a centroid of a level above 0 has a parent
  pub parent : {c : ℕ} → c < n → 0 < level c → (s : ℕ) × Parent n par dep up level c s
  parent {c} hc pos = let a = D.centroids c hc in go a.start a.start_below a.began a.centroid
    where
      go : (s : ℕ) → s < n → Began n A up level c s → CentroidFrom n (ptail par dep) (component_of (ptail par dep) level c) s c
          → (s : ℕ) × Parent n par dep up level c s
      go s hs (first f e) a = absurd (omega arith)
      go s hs (next _ hp i e) a = (s, parent_of hc hs hp i e (start_clear a))

  -- j levels up from v, there is a centroid joined to v
  pub centroid-above : (k j : ℕ) {v : ℕ} → v < n → k + j ≡ level v → (w : ℕ) × (w < n) × (level w ≡ k) × Clear par dep level k v w
  centroid-above k zero {v} hv e = (v, hv, omega arith, clear_self D.spans.rooted level k (omega arith))
  centroid-above k (suc j) {v} hv e =
      let R = D.spans.rooted in
      let p = (parent hv (omega arith)).1 in
      let u = p.one_up in
      let r = centroid-above k j p.below (omega arith) in
      let low : Clear par dep level k (up v) v = λ y i. (let z = p.clear y i in omega arith) in
      (r.0, r.1, r.2, clear_join R level k hv p.below r.1 (clear_turn R level k p.below hv low) r.3)
