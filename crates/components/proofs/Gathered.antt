-- The loop over the centroids: one list more, and the end.
use Prim.Native.Nat.{ℕ, ◌+◌, ◌≤◌, ◌<◌}
use native.Mathlib.Omega.{arith}
use mathlib.Core.Path.{◌≡◌, sym, ap, subst, ◌∙◌}
use mathlib.Core.List.{List, ◌++◌, map}
use lib.ListN.{length, take, set, length-set, length-append}
use lib.Seq.{get_or-take, length-take-le}
use Rattle.sums.specs.Sum.{at}
use Rattle.sums.proofs.Sums.{up_to}
use Rattle.paths.specs.Walk.{Stands}
use Rattle.paths.specs.Rooted.{Spans}
use Rattle.paths.specs.Route.{ptail}
use Rattle.graph.specs.Lent.{list_of}
use Rattle.graph.specs.Work.{Only}
use Rattle.graph.proofs.Frames.{only_trans, only_wider, only_set, at_set_same, at_set_other}
use Rattle.centroid.specs.Components.{component_of}
use Rattle.centroid.specs.Lists.{Breadth, branch_of, joined}
use Rattle.centroidlaws.proofs.SameLists.{joined-map}
use Rattle.centroidlaws.proofs.Rootings.{lists-from}
use Rattle.components.specs.Levels.{levels_in}
use Rattle.components.specs.Listing.{ComponentListed, AllAsks, AllListed}
use Rattle.components.proofs.Fronts.{put, put_here, put_there, joined-before, joined_next, front_next, sets-front, only-front}
use Rattle.components.proofs.Gathering.{GatherBy, Gathering, all_listed, gather_low, gather_long, gather_levels}

module _ {os ts : List ℕ} {n : ℕ} {vs₀ ds₀ bs₀ ss₀ w₀ : List ℕ} (a : AllAsks os ts n vs₀ ds₀ bs₀ ss₀ w₀)
    {vs ds bs ss w : List ℕ} {c from : ℕ} (g : Gathering os ts n vs₀ ds₀ bs₀ ss₀ w₀ vs ds bs ss w c from) where
  module _ (hc : c < n) {vs' ds' bs' w' : List ℕ} {r : ℕ} (d : ComponentListed os ts n c from vs ds bs w vs' ds' bs' w' r) where
    -- the lists of the first c vertices, and that of c
    gather_by : (par dep : ℕ → ℕ) → Spans n (Stands (list_of os ts)) 0 par dep
        → GatherBy os ts n par dep vs₀ ds₀ bs₀ w₀ vs' ds' bs' (set ss c from) (c + 1) r
    gather_by par dep S =
        let way = ptail par dep in
        let A = list_of os ts in
        let G = g.gathered par dep S in
        let L = d.listed par dep S in
        let q : ℕ → List ℕ = G.q in
        let q' : ℕ → List ℕ = put q c L.q in
        let far : ℕ → ℕ → ℕ = λ b x. length (way b x) in
        let long = gather_long a g in
        let own : Breadth A way (component_of way (at (levels_in n w₀)) c) c L.q
        = subst (λ (l : List ℕ). Breadth A way (component_of way (at l) c) c L.q) (sym (gather_levels a g)) L.breadth in
        record {
          q = q';
          breadth = λ b hb. up_to b c hb
              (λ lt. subst (λ (l : List ℕ). Breadth A way (component_of way (at (levels_in n w₀)) b) b l) (sym (put_there q c L.q b (omega arith))) (G.breadth b lt))
              (λ e. subst (λ (k : ℕ). Breadth A way (component_of way (at (levels_in n w₀)) k) k (q' k)) (sym e)
              (subst (λ (l : List ℕ). Breadth A way (component_of way (at (levels_in n w₀)) c) c l) (sym (put_here q c L.q)) own));
          count = L.count ∙ (let e = G.count in let j = length-append (joined q c) L.q in
              let z : from + length L.q ≡ length (joined q c ++ L.q) = omega arith in z) ∙ ap length (sym (joined_next (λ b l. l) q c L.q));
          vertices = front_next (λ b l. l) q c L.q vs₀ vs vs' from G.vertices G.count L.vertices;
          distances = front_next (λ b l. map (far b) l) q c L.q ds₀ ds ds' from G.distances (G.count ∙ sym (joined-map far q c)) L.distances;
          branches = front_next (λ b l. map (branch_of way b) l) q c L.q bs₀ bs bs' from G.branches (G.count ∙ sym (joined-map (branch_of way) q c)) L.branches;
          starts = λ b hb. up_to b c hb
              (λ lt. at_set_other ss c from b (omega arith) ∙ G.starts b lt ∙ ap length (sym (joined-before (λ b l. l) q c L.q b (omega arith))))
              (λ e.
              ap (at (set ss c from)) e
              ∙ at_set_same ss c from (let s = a.starts_room in omega arith)
              ∙ G.count
              ∙ ap length (sym (joined-before (λ b l. l) q c L.q c (omega arith)))
              ∙ ap (λ (k : ℕ). length (joined q' k)) (sym e));
        }

    -- one list more
    pub gather_more : Gathering os ts n vs₀ ds₀ bs₀ ss₀ w₀ vs' ds' bs' (set ss c from) w' (c + 1) r
    gather_more = record {
      within = omega arith;
      gathered = gather_by;
      starts_only = only_trans g.starts_only (only_set ss c from (omega arith) hc);
      only = only_trans g.only d.only;
    }

  -- all are listed
  pub gather-done : n ≤ c → AllListed os ts n vs₀ ds₀ bs₀ ss₀ w₀ vs ds bs (set ss n from) w
  gather-done h =
      let T = a.levelled.tree in
      let way = ptail T.par T.dep in
      let G = g.gathered T.par T.dep T.spans in
      let q : ℕ → List ℕ = G.q in
      let far : ℕ → ℕ → ℕ = λ b x. length (way b x) in
      let within = g.within in
      let e : c ≡ n = omega arith in
      let low = gather_low a g in
      let k = G.count in
      let k₂ = joined-map far q c in
      let k₃ = joined-map (branch_of way) q c in
      let long = gather_long a g in
      let room = a.starts_room in
      let r₁ = a.vertex_room in
      let r₂ = a.distance_room in
      let r₃ = a.branch_room in
      let set_long = length-set ss n from in
      let only : Only 0 (n + 1) ss₀ (set ss n from) = only_trans (only_wider (omega arith) (omega arith) g.starts_only) (only_set ss n from (omega arith) (omega arith)) in
      record {
        l₁ = joined q c;
        l₂ = joined (λ b. map (far b) (q b)) c;
        l₃ = joined (λ b. map (branch_of way b) (q b)) c;
        l₄ = take (n + 1) (set ss n from);
        lists = lists-from (all_listed a T.spans) a.levelled.decomposition q (λ b hb. G.breadth b (omega arith))
            (ap (joined q) e) (ap (joined (λ b. map (far b) (q b))) e) (ap (joined (λ b. map (branch_of way b) (q b))) e)
            (length-take-le (n + 1) (set ss n from) (omega arith))
            (λ b hb. get_or-take (n + 1) (set ss n from) b 0 hb ∙ up_to b n hb
            (λ lt. at_set_other ss n from b (omega arith) ∙ G.starts b (omega arith))
            (λ s. ap (at (set ss n from)) s ∙ at_set_same ss n from (omega arith) ∙ k ∙ ap (λ (j : ℕ). length (joined q j)) (e ∙ sym s)));
        vertices = G.vertices ∙ sets-front (joined q c) vs₀ (omega arith);
        distances = G.distances ∙ sets-front (joined (λ b. map (far b) (q b)) c) ds₀ (omega arith);
        branches = G.branches ∙ sets-front (joined (λ b. map (branch_of way b) (q b)) c) bs₀ (omega arith);
        starts = only-front (n + 1) room only;
        only = g.only;
      }
