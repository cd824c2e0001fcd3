-- The loop over the places of one component, from its start to its end.
use Prim.Native.Nat.{ℕ, ◌+◌, ◌≤◌, ◌<◌}
use native.Mathlib.Omega.{arith}
use mathlib.Core.Path.{◌≡◌, refl, sym, ap, ap₂, subst, ◌∙◌}
use mathlib.Core.Logic.{⊎_elim}
use mathlib.Core.List.{List, [], ◌∷◌, ◌++◌, map}
use lib.ListN.{length, take, set, length-set, length-append}
use lib.Seq.{sets, set-set}
use Rattle.sums.specs.Sum.{at, how_many}
use Rattle.paths.specs.Walk.{In, Below, Stands}
use Rattle.paths.specs.Rooted.{Spans}
use Rattle.paths.specs.Route.{ptail}
use Rattle.paths.proofs.Listed.{in-below, in_either}
use Rattle.paths.proofs.Canon.{ptail_same}
use Rattle.graph.specs.Lent.{list_of}
use Rattle.graph.specs.Work.{Only}
use Rattle.graph.proofs.Frames.{only_refl, only_trans, only_set, at_set_same}
use Rattle.centroid.specs.Components.{component_of}
use Rattle.centroid.specs.Decomposition.{DecompositionOf}
use Rattle.centroid.specs.Lists.{onwards, Breadth, branch_of}
use Rattle.centroid.specs.Regions.{queue_from, met_from, queue_at}
use Rattle.centroidlaws.proofs.Layers.{onward_in}
use Rattle.centroidlaws.proofs.Entries.{below_all}
use Rattle.components.specs.Levels.{levels_in}
use Rattle.components.specs.Entering.{beyond, led_to, notes, ListAnswers}
use Rattle.components.specs.Listing.{ComponentAsks, ComponentListed}
use Rattle.components.proofs.Held.{levels_kept}
use Rattle.components.proofs.Places.{sets_join, sets_over, sets_grown, notes_only, notes_stay, notes_new}
use Rattle.components.proofs.Leading.{back_of, branch_of_lem}
use Rattle.components.proofs.Partly.{partly_more, partly-all, partly-below}
use Rattle.components.proofs.Walking.{around, WalkBy, Walking, lists, centre, here, next, m-below, here-below, at_vertex, at-distance, at_branch, led}

module _ {os ts : List ℕ} {n c from : ℕ} {vs₀ ds₀ bs₀ w₀ : List ℕ} (a : ComponentAsks os ts n c from vs₀ ds₀ bs₀ w₀)
    {vs ds bs w : List ℕ} {i t : ℕ} (g : Walking os ts n c from vs₀ ds₀ bs₀ w₀ vs ds bs w i t) (more : i < t) where
  module _ (par dep : ℕ → ℕ) (S : Spans n (Stands (list_of os ts)) 0 par dep) where
    -- a vertex that is led to is below n, hangs beyond, and is one step farther
    record Led (y : ℕ) : Type 0 where
      below : y < n
      far : length (ptail par dep c y) ≡ at ds i + 1
      branch : branch_of (ptail par dep) c y ≡ beyond c (at vs i) (at bs i) y
      back : branch_of (ptail par dep) y c ≡ here a g more par dep S

    -- each one that is led to is so
    each : (y : ℕ) → In y (next a g more par dep S) → Led y
    each y j =
        let x : ℕ = here a g more par dep S in
        let T = lists a S in
        let hx = here-below a g more par dep S in
        let o = onward_in (list_of os ts) (ptail par dep) (around par dep n w₀ c) c x y j in
        let hy = in-below n y (list_of os ts x) (T.below x hx) o.0 in
        let l = S.only x y hx hy o.0 in
        let d = at-distance a g more par dep S in
        record {
          below = hy;
          far = (let f = o.2 in omega arith);
          branch = branch_of_lem T a.centre hx hy l o.2
              ∙ ap₂ (λ (z b : ℕ). beyond c z b y) (sym (at_vertex a g more par dep S)) (sym (at_branch a g more par dep S));
          back = back_of T a.centre hx hy l o.2;
        }

    -- all are vertices
    next-below : Below n (next a g more par dep S)
    next-below = below_all n (next a g more par dep S) (λ y j. (each y j).below)

    -- the notes in work, as the definition has them
    same-notes : notes n (at vs i) (led_to os ts n c w (at vs i)) w ≡ notes n (here a g more par dep S) (next a g more par dep S) w
    same-notes = ap₂ (λ (z : ℕ) (l : List ℕ). notes n z l w) (at_vertex a g more par dep S) (led a g more par dep S)

  module _ {vs' ds' bs' w' : List ℕ} {r : ℕ} (d : ListAnswers os ts n c i t vs ds bs w vs' ds' bs' w' r) where
    -- one place more was looked at
    walk_by : (par dep : ℕ → ℕ) (S : Spans n (Stands (list_of os ts)) 0 par dep)
        → WalkBy os ts n par dep c from vs₀ ds₀ bs₀ w₀ vs' ds' bs' w' (g.m + 1) r
    walk_by par dep S =
        let W = g.walked par dep S in
        let q : List ℕ = W.q in
        let x : ℕ = here a g more par dep S in
        let new : List ℕ = next a g more par dep S in
        let old : List ℕ = led_to os ts n c w (at vs i) in
        let same = led a g more par dep S in
        let room : met_from n ≤ length w = (let k = a.levelled.room in let l = g.only.same_length in omega arith) in
        let notes-are : w' ≡ notes n x new w = d.backs ∙ same-notes par dep S in
        let few = partly-below (lists a S) (centre a S) g.m q W.partly in
        record {
          q = q ++ new;
          partly = partly_more (list_of os ts) (ptail par dep) (around par dep n w₀ c) c g.m q (m-below a g more par dep S) W.partly;
          count = (let e = ap length same in let j = length-append q new in let k = d.count in let l = W.count in omega arith);
          vertices = d.vertices ∙ ap (sets vs t) same ∙ ap₂ (λ (l : List ℕ) (k : ℕ). sets l k new) W.vertices W.count ∙ sets_join q new vs₀ from;
          distances = sets_grown (λ y. at ds i + 1) (λ y. length (ptail par dep c y)) ds₀ ds ds' q old new from t W.distances W.count same
              (λ y j. sym (each par dep S y j).far) d.distances;
          branches = sets_grown (beyond c (at vs i) (at bs i)) (branch_of (ptail par dep) c) bs₀ bs bs' q old new from t W.branches W.count same
              (λ y j. sym (each par dep S y j).branch) d.branches;
          backs = λ z j. ap (λ (l : List ℕ). at l (queue_at n z)) notes-are ∙ ⊎_elim
              (λ k. notes_stay n x (branch_of (ptail par dep) z c) z new w room (in-below n z q few k) (λ h. sym (each par dep S z h).back) (W.backs z k))
              (λ k. notes_new n x z new w room (each par dep S z k).below k ∙ sym (each par dep S z k).back)
              (in_either z q new j);
        }

    -- one place more, whichever parents and depths give the paths
    pub walk_more : Walking os ts n c from vs₀ ds₀ bs₀ w₀ vs' ds' bs' w' (i + 1) r
    walk_more =
        let T = a.levelled.tree in
        record {
          m = g.m + 1;
          place = (let p = g.place in omega arith);
          walked = walk_by;
          within = (let k = d.count in omega arith);
          only = only_trans g.only
              (subst (Only (queue_from n) (met_from n) w) (sym (d.backs ∙ same-notes T.par T.dep T.spans))
              (notes_only n (here a g more T.par T.dep T.spans) (next a g more T.par T.dep T.spans) w (next-below T.par T.dep T.spans)));
        }

-- the component at its start, with c at place `from`
module _ {os ts : List ℕ} {n c from : ℕ} {vs ds bs w : List ℕ} (a : ComponentAsks os ts n c from vs ds bs w) where
  -- what was written for c
  begun_only : Only (queue_from n) (met_from n) w (set w (queue_at n c) c)
  begun_only = only_set w (queue_at n c) c (omega arith) (let h = a.centre in omega arith)

  -- the levels are as they were
  same_levels : levels_in n w ≡ levels_in n (set w (queue_at n c) c)
  same_levels = levels_kept n (omega arith) a.levelled.room begun_only

  -- a list with c in it has the same room
  begun_room : (l : List ℕ) (x : ℕ) → ((par dep : ℕ → ℕ) → Spans n (Stands (list_of os ts)) 0 par dep → from + how_many n (around par dep n w c) ≤ length l)
      → (par dep : ℕ → ℕ) → Spans n (Stands (list_of os ts)) 0 par dep → from + how_many n (around par dep n (set w (queue_at n c) c) c) ≤ length (set l from x)
  begun_room l x f par dep S =
      let e = length-set l from x in
      let z = ap (λ (k : List ℕ). how_many n (component_of (ptail par dep) (at k) c)) same_levels in
      let r = f par dep S in
      omega arith

  -- what was asked still holds
  pub walk_begun : ComponentAsks os ts n c from (set vs from c) (set ds from 0) (set bs from c) (set w (queue_at n c) c)
  walk_begun = record {
    levelled = record {
      tree = a.levelled.tree;
      room = (let r = a.levelled.room in let l = length-set w (queue_at n c) c in omega arith);
      up = a.levelled.up;
      decomposition = subst (DecompositionOf n (list_of os ts) a.levelled.up) same_levels a.levelled.decomposition;
    };
    centre = a.centre;
    vertex_room = begun_room vs c a.vertex_room;
    distance_room = begun_room ds 0 a.distance_room;
    branch_room = begun_room bs c a.branch_room;
  }

  -- no place was looked at
  pub walk_start : Walking os ts n c from (set vs from c) (set ds from 0) (set bs from c) (set w (queue_at n c) c)
      (set vs from c) (set ds from 0) (set bs from c) (set w (queue_at n c) c) from (from + 1)
  walk_start = record {
    m = 0;
    place = omega arith;
    walked = λ par dep S.
        let none = ptail_same par dep c in
        record {
          q = c ∷ [];
          partly = refl;
          count = refl;
          vertices = sym (set-set vs from c c);
          distances = sym (set-set ds from 0 (length (ptail par dep c c)) ∙ ap (λ (l : List ℕ). set ds from (length l)) none);
          branches = sym (set-set bs from c (branch_of (ptail par dep) c c) ∙ ap (λ (l : List ℕ). set bs from (elim l [ [] ↦ c | (y ∷ k) ↦ y ])) none);
          backs = λ x i. ⊎_elim
              (λ e.
              ap (λ (v : ℕ). at (set w (queue_at n c) c) (queue_at n v)) e
              ∙ at_set_same w (queue_at n c) c (let r = a.levelled.room in let h = a.centre in omega arith)
              ∙ sym (ap (λ (v : ℕ). branch_of (ptail par dep) v c) e ∙ ap (λ (l : List ℕ). elim l [ [] ↦ c | (y ∷ k) ↦ y ]) none))
              absurd i;
        };
    within = omega arith;
    only = only_refl (queue_from n) (met_from n) (set w (queue_at n c) c);
  }

  -- all places were looked at
  pub walk-done : {vs' ds' bs' w' : List ℕ} {i t : ℕ}
      → Walking os ts n c from (set vs from c) (set ds from 0) (set bs from c) (set w (queue_at n c) c) vs' ds' bs' w' i t → t ≤ i
      → ComponentListed os ts n c from vs ds bs w vs' ds' bs' w' t
  walk-done g h = record {
    listed = λ par dep S.
        let W = g.walked par dep S in
        let q : List ℕ = W.q in
        let A = list_of os ts in
        let way = ptail par dep in
        let C = around par dep n (set w (queue_at n c) c) c in
        let rest : List ℕ = onwards A way C c (take g.m q) in
        let far : ℕ → ℕ = λ x. length (way c x) in
        record {
          q = q;
          breadth = subst (λ (l : List ℕ). Breadth A way (component_of way (at l) c) c q) (sym same_levels)
              (partly-all A way C c g.m q (let e = W.count in let p = g.place in omega arith) W.partly);
          count = W.count;
          vertices = W.vertices ∙ sets_over vs from c c q rest W.partly;
          distances = W.distances ∙ sets_over ds from 0 (far c) (map far q) (map far rest) (ap (map far) W.partly);
          branches = W.branches ∙ sets_over bs from c (branch_of way c c) (map (branch_of way c) q) (map (branch_of way c) rest) (ap (map (branch_of way c)) W.partly);
        };
    only = only_trans begun_only g.only;
  }
