-- The search for a centroid: what its two passes hand over.
use Prim.Native.Nat.{ℕ, ◌<◌}
use native.Mathlib.Omega.{arith}
use mathlib.Core.Path.{◌≡◌, sym, ap, ◌∙◌, subst}
use mathlib.Core.Bool.{Bool}
use mathlib.Core.List.{List}
use Rattle.paths.specs.Route.{ptail}
use Rattle.graph.specs.Lent.{list_of}
use Rattle.graph.proofs.Frames.{only_trans}
use Rattle.centroid.specs.Components.{CentroidFrom}
use Rattle.centroid.specs.Regions.{regions_end}
use Rattle.centroid.specs.Search.{live, joined_by, Spread, WalkAsks, Walked, PickAsks, Hangs, Picked, CentroidFound}
use Rattle.centroid.proofs.Living.{live_behind}
use Rattle.centroid.proofs.Spreading.{spread_few}
use Rattle.centroid.proofs.Halving.{hanging, hangs, heavy_centroid}

-- what hangs is told by the positions below t alone
hangs_same : {t : ℕ} {p p' : ℕ → ℕ} {on : ℕ → ℕ → Bool} → ((j : ℕ) → j < t → p' j ≡ p j) → Hangs t p on → Hangs t p' on
hangs_same {t} {p} {p'} {on} same h =
    record { self = h.self; before = h.before; up = λ j l hj a hl ne. h.up j l hj a hl ne ∙ ap (on j) (sym (same l hl)) }

module _ {os ts : List ℕ} {n s : ℕ} {w : List ℕ} (a : WalkAsks os ts n s w) {w₁ : List ℕ} {t : ℕ} (v : Walked os ts n s w w₁ t) where
  now_spread : Spread n (list_of os ts) (ptail a.tree.par a.tree.dep) (live w₁ n) s v.spread.q v.spread.p t 0 t
  now_spread = v.spread.spread a.tree.par a.tree.dep a.tree.spans

  -- the visit is ready for the sizes
  pub pick_asks : PickAsks n t w₁
  pick_asks =
      record {
        small = a.tree.small;
        some = now_spread.some;
        few = spread_few now_spread;
        room = omega (arith, a.room, v.only.same_length);
        earlier = λ j b h. (let e = v.spread.from j h in let k = now_spread.earlier j b h in omega arith);
        ones = v.spread.ones;
      }

  -- and the heavy position holds the centroid
  pub found : {w₂ : List ℕ} {c : ℕ} → Picked n t w₁ w₂ c → CentroidFound os ts n s w w₂ c
  found {w₂} {c} r =
      let j : ℕ = r.place in
      let e : c ≡ v.spread.q j = r.answer ∙ v.spread.queue j r.inside in
      record {
        below = subst (λ (x : ℕ). x < n) (sym e) (now_spread.below j r.inside);
        centroid = λ par dep S.
            (let M = v.spread.spread par dep S in
            subst (λ (g : ℕ → Bool). CentroidFrom n (ptail par dep) (joined_by (ptail par dep) g s) s c) (live_behind n (regions_end n) v.only)
            (subst (CentroidFrom n (ptail par dep) (joined_by (ptail par dep) (live w₁ n) s) s) (sym e)
            (heavy_centroid S M a.start j r.inside (r.heavy (hanging S M a.start) (hangs_same v.spread.from (hangs S M a.start))))));
        only = only_trans v.only r.only;
      }
