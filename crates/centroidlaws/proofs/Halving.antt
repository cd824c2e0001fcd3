-- A component of level k has at most n / 2 ^ k vertices, so no level exceeds the logarithm.
use Prim.Native.Nat.{ℕ, zero, suc, ◌*◌, ◌^◌, ◌≤◌, ◌<◌}
use native.Mathlib.Omega.{arith}
use native.Mathlib.Nat.{mul_assoc, mul_comm, mul-le-mul_left, le-mul_of_pos_right, le_trans, pow-succ'}
use mathlib.Core.Path.{◌≡◌, refl, ap, ◌∙◌}
use mathlib.Core.Logic.{◌≢◌}
use mathlib.Core.List.{List}
use Rattle.sums.specs.Sum.{at, how_many}
use Rattle.paths.specs.Walk.{Stands}
use Rattle.paths.specs.Rooted.{Spans}
use Rattle.paths.specs.Route.{ptail}
use Rattle.numbering.specs.Log.{log2}
use Rattle.numbering.proofs.Logs.{log2_greatest}
use Rattle.centroid.specs.Components.{component_of, in_part}
use Rattle.centroid.specs.Decomposition.{DecompositionOf}
use Rattle.sums.proofs.Images.{how_many_same}
use Rattle.centroidlaws.proofs.Counting.{many_bound, many-some}
use Rattle.centroidlaws.proofs.Parents.{Decomposed, decomposed}
use Rattle.centroidlaws.proofs.Parts.{part_of_parent}

-- twice as many in each of m components are as many in 2 m
double : (m h : ℕ) → (2 * m) * h ≡ m * (2 * h)
double m h = ap (λ (a : ℕ). a * h) (mul_comm 2 m) ∙ mul_assoc m 2 h

module _ {n : ℕ} {A : ℕ → List ℕ} {par dep up level : ℕ → ℕ} (D : Decomposed n A par dep up level) where
  -- a component one level down has at most half the vertices
  half_of_parent : {c : ℕ} → c < n → 0 < level c
      → 2 * how_many n (component_of (ptail par dep) level c) ≤ how_many n (component_of (ptail par dep) level (up c))
  half_of_parent {c} hc pos =
      let P = part_of_parent D hc pos in
      let C = component_of (ptail par dep) level (up c) in
      let o = P.one_up in
      let ne : c ≢ up c = λ e. (let z = ap level e in omega arith) in
      let h = (D.centroids (up c) P.parent_below).centroid.halves c hc P.inside ne in
      let s = how_many_same n (component_of (ptail par dep) level c) (in_part (ptail par dep) C (up c) c) P.part in
      omega arith

  -- 2 ^ k components of the size of one of level k fit into the tree
  pub halved : (k : ℕ) {c : ℕ} → c < n → level c ≡ k → 2 ^ k * how_many n (component_of (ptail par dep) level c) ≤ n
  halved zero {c} hc e = let z = many_bound n (component_of (ptail par dep) level c) in omega arith
  halved (suc k) {c} hc e =
      let h : ℕ = how_many n (component_of (ptail par dep) level c) in
      let P = part_of_parent D hc (omega arith) in
      let o = P.one_up in
      let ih = halved k P.parent_below (omega arith) in
      let m = mul-le-mul_left (2 ^ k) (half_of_parent hc (omega arith)) in
      rw (pow-succ' 2 k, double (2 ^ k) h) (le_trans m ih)

  -- 2 to a level is at most the number of vertices
  pub level_power : {c : ℕ} → c < n → 2 ^ level c ≤ n
  level_power {c} hc =
      let C = component_of (ptail par dep) level c in
      let some = many-some n C hc (D.centroids c hc).centroid.inside in
      le_trans (le-mul_of_pos_right (2 ^ level c) some) (halved (level c) hc refl)

-- no level exceeds the logarithm of the number of vertices
pub level_bound :
    {n : ℕ} {A : ℕ → List ℕ} {par dep : ℕ → ℕ} {up level : List ℕ}
    → Spans n (Stands A) 0 par dep → DecompositionOf n A up level → {v : ℕ} → v < n → (2 ^ at level v ≤ n) × (at level v ≤ log2 n)
level_bound {n} {level = level} S D {v} hv =
    let p = level_power (decomposed S D) hv in (p, log2_greatest (at level v) n p)
