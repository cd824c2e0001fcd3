-- The first start that waits is taken, in work and in the two tables.
use Prim.Native.Nat.{ℕ, ◌+◌, ◌-◌, ◌≤◌, ◌<◌}
use native.Mathlib.Omega.{arith}
use mathlib.Core.Path.{◌≡◌, refl, sym, ap, ◌∙◌, subst}
use mathlib.Core.Bool.{Bool, true, false, not}
use mathlib.Core.List.{List}
use lib.Dec.{eqb, ltb, leb}
use lib.ListN.{length, set, length-set}
use borrow.Author.Tests.{eq-eqb, lt-ltb, le-ltb, le-leb, lt-leb, leb-true}
use Rattle.sums.specs.Sum.{at}
use Rattle.sums.proofs.Sums.{equal_or_not}
use Rattle.paths.specs.Walk.{In, Stands}
use Rattle.paths.specs.Rooted.{Spans}
use Rattle.paths.specs.Route.{ptail}
use Rattle.paths.proofs.Listed.{in-below, at_in}
use Rattle.graph.specs.Lent.{vertices, list_of}
use Rattle.graph.specs.Marks.{mark_of, Marks}
use Rattle.graph.specs.Work.{Only}
use Rattle.graph.proofs.Frames.{only_trans, only_wider, at_set_same, at_set_other}
use Rattle.graph.proofs.Neighbours.{list-below}
use Rattle.paths.proofs.Kept.{keep_in, keep_once}
use Rattle.visit.proofs.Growing.{upd, upd_here, upd_there}
use Rattle.centroid.specs.Components.{CentroidFrom}
use Rattle.centroid.specs.Regions.{start_at, parent_at, level_at, removed_from, regions_end}
use Rattle.centroid.specs.Search.{live, joined_by, WalkAsks, CentroidFound}
use Rattle.centroid.specs.Parting.{Parting, left_of, AddAsks, Added, RemoveAsks, Removed}
use Rattle.centroid.proofs.Living.{live_mark, live_kept, live_behind}
use Rattle.centroid.proofs.Classes.{joined_same}
use Rattle.centroid.proofs.Ways.{centroid_same}
use Rattle.centroid.proofs.Pending.{parting_few}
use Rattle.centroid.proofs.Removing.{Changed, level_small}
use Rattle.centroid.proofs.Stepping.{LeftBeside, Extended, parting_more}

-- f up to t, then g
extend : (t : ℕ) (g f : ℕ → ℕ) → ℕ → ℕ
extend t g f j = elim (ltb j t) [ true ↦ f j | false ↦ g (j - t) ]

extended : (t m : ℕ) (g f : ℕ → ℕ) → Extended t m g f (extend t g f)
unfolding extend
extended t m g f =
    record {
      old = λ j h. rw (lt-ltb j t h, extend) refl;
      new = λ i h. rw (le-ltb (t + i) t (omega arith), extend) (ap g (let e : t + i - t ≡ i = omega arith in e));
    }

module _ {os ts : List ℕ} {n h t : ℕ} {table level w : List ℕ} (a : RemoveAsks os ts n h t table level w) where
  now_parting : Parting n (list_of os ts) (ptail a.tree.par a.tree.dep) (λ j. at w (start_at n j)) (λ j. at w (parent_at n j)) (λ j. at w (level_at n j)) a.state.lv (at a.up) h t
  now_parting = a.state.parting a.tree.par a.tree.dep a.tree.spans

  -- positions of entries that wait are below n
  pub take_few : (h < n) × (t ≤ n)
  take_few = (let f = parting_few a.tree.spans now_parting in let s = a.some in (omega arith, f))

  start_below : at w (start_at n h) < n
  start_below = (now_parting.entries h (omega arith) a.some).below

  -- the component of the start can be searched
  pub take_asks : WalkAsks os ts n (at w (start_at n h)) w
  take_asks =
      record {
        tree = a.tree;
        start = start_below;
        start_live = a.state.marks (at w (start_at n h)) start_below
            ∙ le-leb n (a.state.lv (at w (start_at n h))) (now_parting.entries h (omega arith) a.some).left;
        room = a.room;
      }

  module _ {w₁ : List ℕ} {c : ℕ} (f : CentroidFound os ts n (at w (start_at n h)) w w₁ c) {w₂ : List ℕ} (M : Marks (removed_from n) c w₁ w₂) where
    changed : Changed c (at w (level_at n h)) a.state.lv (upd a.state.lv c (at w (level_at n h)))
    changed = record { here = upd_here a.state.lv c (at w (level_at n h)); there = upd_there a.state.lv c (at w (level_at n h)) }

    -- the centroid as the state has its component
    centroid : (par dep : ℕ → ℕ) → Spans n (Stands (list_of os ts)) 0 par dep
        → CentroidFrom n (ptail par dep) (joined_by (ptail par dep) (λ y. leb n (a.state.lv y)) (at w (start_at n h))) (at w (start_at n h)) c
    centroid par dep S =
        centroid_same n (ptail par dep) (ptail par dep) (joined_by (ptail par dep) (live w n) (at w (start_at n h)))
        (joined_by (ptail par dep) (λ y. leb n (a.state.lv y)) (at w (start_at n h)))
        (λ u v hu hv. refl) (λ x hx. joined_same S.rooted (live w n) (λ y. leb n (a.state.lv y)) start_below hx a.state.marks) start_below f.below (f.centroid par dep S)

    -- the level is below n
    pub take_level : at w (level_at n h) < n
    take_level = level_small a.tree.spans now_parting a.some f.below (centroid a.tree.par a.tree.dep a.tree.spans) changed

    -- the marks say who is left now
    marks_now : (y : ℕ) → y < n → live w₂ n y ≡ leb n (upd a.state.lv c (at w (level_at n h)) y)
    marks_now y hy =
        equal_or_not y c
        (λ e.
        live_mark w₂ n y hy
        ∙ ap not (eq-eqb (mark_of w₂ (removed_from n) y) 1 (ap (mark_of w₂ (removed_from n)) e ∙ M.marked))
        ∙ sym (ap (leb n) (ap (upd a.state.lv c (at w (level_at n h))) e ∙ changed.here) ∙ lt-leb n (at w (level_at n h)) take_level))
        (λ ne.
        live_mark w₂ n y hy
        ∙ ap (λ (b : ℕ). not (eqb b 1)) (M.others y ne)
        ∙ sym (live_mark w₁ n y hy)
        ∙ ap (λ (g : ℕ → Bool). g y) (live_behind n (regions_end n) f.only)
        ∙ a.state.marks y hy
        ∙ ap (leb n) (sym (changed.there y ne)))

    beside : LeftBeside n (list_of os ts) (upd a.state.lv c (at w (level_at n h))) c (left_of os ts n c w₂)
    beside =
        let both : (i : ℕ) → i < length (left_of os ts n c w₂) → In (at (left_of os ts n c w₂) i) (list_of os ts c) × (live w₂ n (at (left_of os ts n c w₂) i) ≡ true)
        = λ i hi. (keep_in (live w₂ n) (list_of os ts c) (at (left_of os ts n c w₂) i)).0 (at_in (left_of os ts n c w₂) i hi) in
        let inside : (y : ℕ) → In y (list_of os ts c) → y < n
        = λ y i. (let z = a.tree.size in let b = f.below in
        let k = in-below (vertices os) y (list_of os ts c) (list-below os ts a.tree.offsets a.tree.targets c (omega arith)) i in omega arith) in
        record {
          near = λ i hi. (both i hi).0;
          below = λ i hi. inside (at (left_of os ts n c w₂) i) (both i hi).0;
          left = λ i hi. leb-true n (upd a.state.lv c (at w (level_at n h)) (at (left_of os ts n c w₂) i))
              (sym (marks_now (at (left_of os ts n c w₂) i) (inside (at (left_of os ts n c w₂) i) (both i hi).0)) ∙ (both i hi).1);
          all = λ y hy i l. (keep_in (live w₂ n) (list_of os ts c) y).1 (i, marks_now y hy ∙ le-leb n (upd a.state.lv c (at w (level_at n h)) y) l);
          once = keep_once (live w₂ n) (list_of os ts c) (a.tree.once c f.below);
        }

    -- the row of the centroid in the table of parents
    row : Changed c (at w (parent_at n h)) (at a.up) (at (set a.up c (at w (parent_at n h))))
    row =
        record {
          here = at_set_same a.up c (at w (parent_at n h)) (let b = f.below in let l = a.state.up_long in omega arith);
          there = λ y ne. at_set_other a.up c (at w (parent_at n h)) y ne;
        }

    -- there is room for the new starts
    take_fits : t + length (left_of os ts n c w₂) ≤ n
    take_fits =
        let K : List ℕ = left_of os ts n c w₂ in
        parting_few a.tree.spans
        (parting_more a.tree.spans now_parting a.some f.below (centroid a.tree.par a.tree.dep a.tree.spans) changed row beside
        (extended t (length K) (at K) (λ j. at w (start_at n j)))
        (extended t (length K) (λ i. c) (λ j. at w (parent_at n j)))
        (extended t (length K) (λ i. at w (level_at n h) + 1) (λ j. at w (level_at n j))))

    -- the new starts can be added
    pub take_adds : AddAsks os ts n c t w₂
    take_adds =
        record { tree = a.tree; vertex = f.below; fits = take_fits; room = omega (arith, a.room, f.only.same_length, M.same_length) }

    -- entries of the starts, parents and levels are as they were
    kept : (i : ℕ) → i < removed_from n → at w₂ i ≡ at w i
    kept i hi = M.elsewhere i (omega arith) ∙ f.only.before i (omega arith)

    -- the entry was taken
    pub taken : {w₃ : List ℕ} {r : ℕ} → Added os ts n c (at w (level_at n h) + 1) t w₂ w₃ r
        → Removed os ts n h w (set table c (at w (parent_at n h))) (set level c (at w (level_at n h))) w₃ r
    taken {w₃} {r} d =
        let few = take_few in
        let K : List ℕ = left_of os ts n c w₂ in
        record {
          up = set a.up c (at w (parent_at n h));
          held = λ e. ap (λ (x : List ℕ). set x c (at w (parent_at n h))) (a.held (sym (length-set table c (at w (parent_at n h))) ∙ e));
          state = record {
            lv = upd a.state.lv c (at w (level_at n h));
            up_long = length-set a.up c (at w (parent_at n h)) ∙ a.state.up_long;
            level_long = length-set level c (at w (level_at n h)) ∙ a.state.level_long;
            levels = λ y hy l. equal_or_not y c
                (λ e.
                ap (at (set level c (at w (level_at n h)))) e
                ∙ at_set_same level c (at w (level_at n h)) (let b = f.below in let z = a.state.level_long in omega arith)
                ∙ sym (ap (upd a.state.lv c (at w (level_at n h))) e ∙ changed.here))
                (λ ne.
                let s = changed.there y ne in
                at_set_other level c (at w (level_at n h)) y ne ∙ a.state.levels y hy (omega arith) ∙ sym s);
            marks = λ y hy. ap (λ (g : ℕ → Bool). g y) (live_kept n w₂ w₃ (λ i p q. d.only.after i p)) ∙ marks_now y hy;
            parting = λ par dep S.
                subst (Parting n (list_of os ts) (ptail par dep) (λ j. at w₃ (start_at n j)) (λ j. at w₃ (parent_at n j)) (λ j. at w₃ (level_at n j))
                (upd a.state.lv c (at w (level_at n h))) (at (set a.up c (at w (parent_at n h)))) (h + 1)) (sym d.count)
                (parting_more S (a.state.parting par dep S) a.some f.below (centroid par dep S) changed row beside
                (record { old = λ j hj. d.old_starts j hj ∙ kept (start_at n j) (omega arith); new = d.starts })
                (record { old = λ j hj. d.old_parents j hj ∙ kept (parent_at n j) (omega arith); new = d.parents })
                (record { old = λ j hj. d.old_levels j hj ∙ kept (level_at n j) (omega arith); new = d.levels }));
          };
          only = only_trans (only_wider (omega arith) (omega arith) f.only) (only_trans marked_only (only_wider (omega arith) (omega arith) d.only));
        }
      where
        marked_only : Only 0 (regions_end n) w₁ w₂
        marked_only =
            record {
              same_length = M.same_length;
              before = λ i hi. absurd (omega arith);
              after = λ i hi. M.elsewhere i (let b = f.below in omega arith);
            }
