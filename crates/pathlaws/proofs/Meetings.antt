-- A climb from two vertices of a numbering always ends with both sides on one chain, before either may leave no more chains.
use Rattle.std.specs.Prelude.{Ok}
use Prim.Native.Nat.{ℕ, zero, suc, ◌+◌, ◌*◌, ◌≤◌, ◌<◌}
use native.Mathlib.Omega.{arith}
use native.Mathlib.Decide.{dec_le, ℕ_discrete}
use mathlib.Core.Path.{◌≡◌, refl, sym, ◌∙◌}
use mathlib.Core.Logic.{inl, inr, ◌≢◌}
use mathlib.Core.List.{List, ◌∷◌}
use borrow.Author.Tests.{lt-ltb, le-leb, lt-leb}
use Rattle.paths.proofs.Listed.{in_left, in_right}
use Rattle.paths.proofs.Steps.{on_last}
use Rattle.paths.proofs.Top.{top_comm}
use Rattle.numbering.specs.Log.{log2}
use Rattle.numbering.proofs.Bounds.{lights-one, lights_log}
use Rattle.numbering.proofs.Climbs.{same_head-top}
use Rattle.numbering.proofs.Leaves.{deeper_head_pos, chain_leave, chain_leave-top, chain_arrive, chain_arrive-top}
use Rattle.tables.specs.Tables.{Six}
use Rattle.climb.specs.Sound.{parent_in, depth_in, head_in, place_of, On}
use Rattle.climb.specs.Climbing.{climb_to, ancestor_of}
use Rattle.climb.specs.declared.places.Climb.{Climb}
use Rattle.climb.proofs.Climbs.{leave_chain, climb_from, climb_met, climb_by_u, climb_by_v, climb-from}
use Rattle.pathlaws.specs.Given.{Given, OnIn, path_in, top_in, lights_in}
use Rattle.pathlaws.specs.Meeting.{Meeting}
use Rattle.pathlaws.proofs.Standing.{up_below, up_parent, stand_vertex}

-- a climb whose ends stand on x and y, after leaving a and b chains
abbrev pub stage : Six → (x y a b : ℕ) → Climb
stage t x y a b = record { u = place_of t x; v = place_of t y; u_count = a; v_count = b }

-- what meets on a part of a path, with the same deepest common ancestor, meets on the path
meeting-from :
    {n : ℕ} {t : Six} {x y : ℕ} (w z : ℕ) (c : Climb) → ((i : ℕ) → OnIn t i w z → OnIn t i x y) → top_in t x y ≡ top_in t w z
    → Meeting n t w z c → Meeting n t x y c
meeting-from w z c on e m =
    record {
      u_end = m.u_end;
      v_end = m.v_end;
      u_at = m.u_at;
      v_at = m.v_at;
      u_on = on m.u_end m.u_on;
      v_on = on m.v_end m.v_on;
      one_head = m.one_head;
      ancestor = rw e m.ancestor;
      u_few = m.u_few;
      v_few = m.v_few;
    }

module _ {n root : ℕ} {A : ℕ → List ℕ} {t : Six} {kids : ℕ → List ℕ} (G : Given n A root t kids) where
  -- a side leaves its chain for the parent of the head, if it may leave one more
  pub leaves : (a : ℕ) {x : ℕ} → x < n → 0 < depth_in t (head_in t x) → a < log2 n → leave_chain n t (place_of t x) a ≡ On (place_of t (parent_in t (head_in t x)))
  leaves a hx p h = rw (up_parent G hx p, lt-ltb a (log2 n) h, stand_vertex G (up_below G hx p))

  -- of two ends on one chain the shallower is the deepest common ancestor
  shallower : (a b : ℕ) {x y : ℕ} → x < n → y < n → head_in t x ≡ head_in t y → ancestor_of (stage t x y a b) ≡ place_of t (top_in t x y)
  shallower a b {x} {y} hx hy e = elim (dec_le (depth_in t x) (depth_in t y)) [
    | yes h ↦ rw (le-leb (depth_in t x) (depth_in t y) h, same_head-top G.tables.numbering hx hy e h)
    | no q ↦
        rw (
          lt-leb (depth_in t x) (depth_in t y) (omega arith),
          top_comm G.tables.spans.rooted hx hy,
          same_head-top G.tables.numbering hy hx (sym e) (omega arith),
        )
  ]

  -- a climb that meets after a move of the first side meets from where it was
  meet_u :
      {x y : ℕ} (c : Climb) → x < n → y < n → head_in t x ≢ head_in t y → depth_in t (head_in t y) ≤ depth_in t (head_in t x)
      → Meeting n t (parent_in t (head_in t x)) y c → Meeting n t x y c
  meet_u {x} {y} c hx hy d h =
      meeting-from (parent_in t (head_in t x)) y c
      (λ w i. inr (rw (chain_leave G.tables.numbering hx hy d h)
      (in_right w (path_in t x (head_in t x)) (parent_in t (head_in t x) ∷ path_in t (parent_in t (head_in t x)) y) i)))
      (chain_leave-top G.tables.numbering hx hy d h)

  -- and after a move of the second
  meet_v :
      {x y : ℕ} (c : Climb) → x < n → y < n → head_in t x ≢ head_in t y → depth_in t (head_in t x) ≤ depth_in t (head_in t y)
      → Meeting n t x (parent_in t (head_in t y)) c → Meeting n t x y c
  meet_v {x} {y} c hx hy d h =
      meeting-from x (parent_in t (head_in t y)) c
      (λ w i. rw (chain_arrive G.tables.numbering hx hy d h)
      (in_left w (x ∷ path_in t x (parent_in t (head_in t y))) (head_in t y ∷ path_in t (head_in t y) y) i))
      (chain_arrive-top G.tables.numbering hx hy d h)

  -- from any two vertices the climb meets, with fewer than k chains to leave
  climbs :
      (k x y a b : ℕ)
      → x < n
      → y < n
      → a + lights_in t x ≤ log2 n
      → b + lights_in t y ≤ log2 n
      → lights_in t x + lights_in t y < k
      → (c : Climb) × (climb_from n t (stage t x y a b) ≡ Ok c) × Meeting n t x y c
  climbs zero x y a b hx hy i j h = absurd (omega arith)
  climbs (suc k) x y a b hx hy i j h = elim (ℕ_discrete (head_in t x) (head_in t y)) [
    | yes e ↦ (
      stage t x y a b,
      climb_met n t (stage t x y a b) e,
      record {
        u_end = x;
        v_end = y;
        u_at = refl;
        v_at = refl;
        u_on = inl refl;
        v_on = on_last G.tables.spans.rooted hx hy;
        one_head = e;
        ancestor = shallower a b hx hy e;
        u_few = omega arith;
        v_few = omega arith;
      },
    )
    | no d ↦ elim (dec_le (depth_in t (head_in t y)) (depth_in t (head_in t x))) [
      | yes q ↦
          let p = deeper_head_pos G.tables.numbering hx hy d q in
          let l = lights-one G.tables.numbering hx p in
          let r = climbs k (parent_in t (head_in t x)) y (a + 1) b (up_below G hx p) hy (omega arith) j (omega arith) in (
            r.0,
            climb_by_u n t (stage t x y a b) d q ∙ rw (leaves a hx p (omega arith)) r.1,
            meet_u r.0 hx hy d q r.2,
          )
      | no q ↦
          let f : head_in t y ≢ head_in t x = λ e. d (sym e) in
          let s : depth_in t (head_in t x) ≤ depth_in t (head_in t y) = omega arith in
          let p = deeper_head_pos G.tables.numbering hy hx f s in
          let l = lights-one G.tables.numbering hy p in
          let r = climbs k x (parent_in t (head_in t y)) a (b + 1) hx (up_below G hy p) i (omega arith) (omega arith) in (
            r.0,
            climb_by_v n t (stage t x y a b) d (omega arith) ∙ rw (leaves b hy p (omega arith)) r.1,
            meet_v r.0 hx hy d s r.2,
          )
    ]
  ]

  -- the climb from any two vertices meets
  pub climb_meets : {u v : ℕ} → u < n → v < n → (c : Climb) × (climb_to n t u v ≡ Ok c) × Meeting n t u v c
  climb_meets {u} {v} hu hv =
      let i = lights_log G.tables.numbering hu in
      let j = lights_log G.tables.numbering hv in
      let r = climbs (2 * log2 n + 1) u v 0 0 hu hv (omega arith) (omega arith) (omega arith) in
      (r.0, climb-from n t u v (stand_vertex G hu) (stand_vertex G hv) ∙ r.1, r.2)
