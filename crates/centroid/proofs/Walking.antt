-- The visit of a component from its start to its end, position by position.
use Prim.Native.Nat.{ℕ, ◌+◌, ◌≤◌, ◌<◌}
use native.Mathlib.Omega.{arith}
use mathlib.Core.Path.{◌≡◌, refl, sym, ap, ◌∙◌, subst}
use mathlib.Core.Bool.{Bool}
use mathlib.Core.List.{List}
use lib.ListN.{length, set, length-set}
use Rattle.sums.specs.Sum.{at}
use Rattle.paths.specs.Route.{ptail}
use Rattle.graph.specs.Lent.{list_of}
use Rattle.graph.specs.Work.{Only}
use Rattle.graph.proofs.Frames.{only_refl, only_trans, only_set, at_set_same, at_set_other}
use Rattle.centroid.specs.Regions.{queue_from, met_from, sizes_from, regions_end}
use Rattle.centroid.specs.Search.{live, Spread, SpreadIn, ListAsks, ListAnswers, WalkAsks, Walked}
use Rattle.centroid.proofs.Living.{live_behind}
use Rattle.centroid.proofs.Spreading.{spread_start, spread_few, spread_next}

-- work with s at position 0
abbrev pub started : ℕ → ℕ → List ℕ → List ℕ
started n s w = set (set (set w (queue_from n) s) (met_from n) 0) (sizes_from n) 1

-- i positions were looked through, of the t that are met; w₀ is work as the loop began
pub record Walking (os ts : List ℕ) (n s : ℕ) (w₀ w : List ℕ) (i t : ℕ) : Type 0 where
  pub spread : SpreadIn os ts n s w i 0 t
  pub only : Only (queue_from n) (regions_end n) w₀ w

module _ (os ts : List ℕ) (n s : ℕ) (w : List ℕ) (a : WalkAsks os ts n s w) where
  -- what was written before the loop
  pub started_only : Only (queue_from n) (regions_end n) w (started n s w)
  started_only =
      let h = a.tree.some in
      only_trans (only_set w (queue_from n) s (omega arith) (omega arith))
      (only_trans (only_set (set w (queue_from n) s) (met_from n) 0 (omega arith) (omega arith))
      (only_set (set (set w (queue_from n) s) (met_from n) 0) (sizes_from n) 1 (omega arith) (omega arith)))

  first : (b : ℕ) (j : ℕ) → j < 1 → at (started n s w) (b + j) ≡ at (started n s w) b
  first b j h = ap (at (started n s w)) (let e : b + j ≡ b = omega arith in e)

  -- no position was looked through
  pub walking_start : Walking os ts n s (started n s w) (started n s w) 0 1
  walking_start =
      let some = a.tree.some in
      let room = a.room in
      let l₁ = length-set w (queue_from n) s in
      let l₂ = length-set (set w (queue_from n) s) (met_from n) 0 in
      record {
        spread = record {
          q = λ j. s;
          p = λ j. 0;
          queue = λ j h. first (queue_from n) j h
              ∙ at_set_other (set (set w (queue_from n) s) (met_from n) 0) (sizes_from n) 1 (queue_from n) (omega arith)
              ∙ at_set_other (set w (queue_from n) s) (met_from n) 0 (queue_from n) (omega arith)
              ∙ at_set_same w (queue_from n) s (omega arith);
          from = λ j h. first (met_from n) j h
              ∙ at_set_other (set (set w (queue_from n) s) (met_from n) 0) (sizes_from n) 1 (met_from n) (omega arith)
              ∙ at_set_same (set w (queue_from n) s) (met_from n) 0 (omega arith);
          ones = λ j h. first (sizes_from n) j h ∙ at_set_same (set (set w (queue_from n) s) (met_from n) 0) (sizes_from n) 1 (omega arith);
          spread = λ par dep S.
              subst (λ (g : ℕ → Bool). Spread n (list_of os ts) (ptail par dep) g s (λ j. s) (λ j. 0) 0 0 1) (sym (live_behind n (regions_end n) started_only))
              (spread_start (list_of os ts) (ptail par dep) (live w n) (λ j. s) (λ j. 0) a.start a.start_live refl refl);
        };
        only = only_refl (queue_from n) (regions_end n) (started n s w);
      }

  module _ {v : List ℕ} {i t : ℕ} (g : Walking os ts n s (started n s w) v i t) where
    now_spread : Spread n (list_of os ts) (ptail a.tree.par a.tree.dep) (live v n) s g.spread.q g.spread.p i 0 t
    now_spread = g.spread.spread a.tree.par a.tree.dep a.tree.spans

    -- there are no more positions than vertices
    pub walking_few : (i ≤ t) × (t ≤ n)
    walking_few = (now_spread.within, spread_few now_spread)

    first_vertex : at v (queue_from n) ≡ s
    first_vertex =
        ap (at v) (let e : queue_from n ≡ queue_from n + 0 = omega arith in e) ∙ g.spread.queue 0 now_spread.some ∙ now_spread.start

    -- the list of the next position can be looked through
    pub walking_asks : i < t → ListAsks os ts n i t v
    walking_asks hi =
        record {
          tree = a.tree;
          room = omega (arith, a.room, g.only.same_length, started_only.same_length);
          inside = hi;
          spread = subst (λ (r : ℕ). SpreadIn os ts n r v i 0 t) (sym first_vertex) g.spread;
        }

    -- one position more
    pub walking_more : {v' : List ℕ} {t' : ℕ} → ListAnswers os ts n i v v' t' → Walking os ts n s (started n s w) v' (i + 1) t'
    walking_more {v'} {t'} b =
        record {
          spread = subst (λ (r : ℕ). SpreadIn os ts n r v' (i + 1) 0 t') first_vertex
              (record {
                q = b.spread.q;
                p = b.spread.p;
                queue = b.spread.queue;
                from = b.spread.from;
                ones = b.spread.ones;
                spread = λ par dep S. spread_next (b.spread.spread par dep S) b.inside
                    (ap (λ (u : ℕ). length (list_of os ts u)) (sym b.kept ∙ b.spread.queue i b.inside));
              });
          only = only_trans g.only b.only;
        }

    -- all positions were looked through
    pub walking-done : i ≡ t → Walked os ts n s w v t
    walking-done e =
        record {
          spread = subst (λ (x : ℕ). SpreadIn os ts n s v x 0 t) e g.spread;
          only = only_trans started_only g.only;
        }
