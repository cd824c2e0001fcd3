-- The loop over the places of one component: the list of vertices is its own queue.
use Prim.Native.Nat.{ℕ, ◌+◌, ◌≤◌, ◌<◌}
use native.Mathlib.Omega.{arith}
use mathlib.Core.Path.{◌≡◌, sym, ap, ◌∙◌}
use mathlib.Core.Bool.{Bool, true}
use mathlib.Core.List.{List, ◌++◌, map}
use lib.ListN.{length, length-append, length-map}
use lib.Seq.{sets, length-sets}
use Rattle.sums.specs.Sum.{at}
use Rattle.paths.specs.Walk.{In, Stands}
use Rattle.paths.specs.Rooted.{Spans}
use Rattle.paths.specs.Route.{ptail}
use Rattle.paths.proofs.Listed.{in-below, at_in}
use Rattle.graph.specs.Lent.{list_of}
use Rattle.graph.specs.Work.{Only}
use Rattle.centroid.specs.Components.{component_of}
use Rattle.centroid.specs.Lists.{onward, branch_of}
use Rattle.centroid.specs.Regions.{queue_from, met_from, queue_at, level_of_at}
use Rattle.centroidlaws.proofs.Counting.{many_bound, many-some}
use Rattle.centroidlaws.proofs.Parents.{decomposed}
use Rattle.centroidlaws.proofs.Before.{Listed}
use Rattle.centroidlaws.proofs.Entries.{Around, component_around}
use Rattle.components.specs.Levels.{levels_in}
use Rattle.components.specs.Entering.{leads, level_in, led_to, ListAsks}
use Rattle.components.specs.Listing.{size_of, ComponentAsks}
use Rattle.components.proofs.Held.{levels_at}
use Rattle.components.proofs.Passing.{leads_same}
use Rattle.components.proofs.Places.{sets_at, map_at}
use Rattle.components.proofs.Leading.{tree_listed, path_short, lead_same}
use Rattle.components.proofs.Partly.{Partly, partly_more, partly-below, partly_inside, partly_few}

-- c's component by the levels in w
abbrev pub around : (par dep : ℕ → ℕ) → ℕ → List ℕ → ℕ → ℕ → Bool
around par dep n w c = component_of (ptail par dep) (at (levels_in n w)) c

-- q stands from place `from` on, and what its first m entries lead on to stands in it; w₀ has the levels
pub record WalkBy (os ts : List ℕ) (n : ℕ) (par dep : ℕ → ℕ) (c from : ℕ) (vs₀ ds₀ bs₀ w₀ vs ds bs w : List ℕ) (m t : ℕ) : Type 0 where
  pub q : List ℕ
  pub partly : Partly (list_of os ts) (ptail par dep) (around par dep n w₀ c) c m q
  pub count : t ≡ from + length q
  pub vertices : vs ≡ sets vs₀ from q
  pub distances : ds ≡ sets ds₀ from (map (λ x. length (ptail par dep c x)) q)
  pub branches : bs ≡ sets bs₀ from (map (branch_of (ptail par dep) c) q)
  pub backs : (x : ℕ) → In x q → at w (queue_at n x) ≡ branch_of (ptail par dep) x c

-- the places up to i were looked at, and those up to t are taken
pub record Walking (os ts : List ℕ) (n c from : ℕ) (vs₀ ds₀ bs₀ w₀ vs ds bs w : List ℕ) (i t : ℕ) : Type 0 where
  pub m : ℕ
  pub place : i ≡ from + m
  pub walked : (par dep : ℕ → ℕ) → Spans n (Stands (list_of os ts)) 0 par dep → WalkBy os ts n par dep c from vs₀ ds₀ bs₀ w₀ vs ds bs w m t
  pub within : i ≤ t
  pub only : Only (queue_from n) (met_from n) w₀ w

module _ {os ts : List ℕ} {n c from : ℕ} {vs₀ ds₀ bs₀ w₀ : List ℕ} (a : ComponentAsks os ts n c from vs₀ ds₀ bs₀ w₀) where
  module _ {par dep : ℕ → ℕ} (S : Spans n (Stands (list_of os ts)) 0 par dep) where
    -- the tree's lists
    pub lists : Listed n (list_of os ts) par dep
    lists = tree_listed a.levelled.tree S

    -- the component with its centroid
    pub centre : Around n par dep (around par dep n w₀ c) c
    centre = component_around (decomposed S a.levelled.decomposition) a.centre

  -- there is room for the centroid
  pub walk_place : (from < length vs₀) × (from < length ds₀) × (from < length bs₀)
  walk_place =
      let T = a.levelled.tree in
      let some = many-some n (around T.par T.dep n w₀ c) a.centre (centre T.spans).centre in
      let x = a.vertex_room T.par T.dep T.spans in
      let y = a.distance_room T.par T.dep T.spans in
      let z = a.branch_room T.par T.dep T.spans in
      (omega arith, omega arith, omega arith)

  module _ {vs ds bs w : List ℕ} {i t : ℕ} (g : Walking os ts n c from vs₀ ds₀ bs₀ w₀ vs ds bs w i t) where
    -- the lists and work are as long as before
    pub walk_long : (length vs ≡ length vs₀) × (length ds ≡ length ds₀) × (length bs ≡ length bs₀) × (length w ≡ length w₀)
    walk_long =
        let T = a.levelled.tree in
        let W = g.walked T.par T.dep T.spans in
        let far : ℕ → ℕ = λ x. length (ptail T.par T.dep c x) in (
          ap length W.vertices ∙ length-sets vs₀ from W.q,
          ap length W.distances ∙ length-sets ds₀ from (map far W.q),
          ap length W.branches ∙ length-sets bs₀ from (map (branch_of (ptail T.par T.dep) c) W.q),
          g.only.same_length,
        )

    -- no more places are taken than there are vertices
    pub walk_few : t ≤ from + n
    walk_few =
        let T = a.levelled.tree in
        let W = g.walked T.par T.dep T.spans in
        let f = partly_few (lists T.spans) (centre T.spans) g.m W.q W.partly in
        let b = many_bound n (around T.par T.dep n w₀ c) in
        let e = W.count in
        omega arith

    module _ (more : i < t) (par dep : ℕ → ℕ) (S : Spans n (Stands (list_of os ts)) 0 par dep) where
      -- the lists so far
      abbrev now : WalkBy os ts n par dep c from vs₀ ds₀ bs₀ w₀ vs ds bs w g.m t
      now = g.walked par dep S

      -- the vertex at place i
      abbrev pub here : ℕ
      here = at now.q g.m

      -- what it leads on to
      abbrev pub next : List ℕ
      next = onward (list_of os ts) (ptail par dep) (around par dep n w₀ c) c here

      -- place i is taken
      pub m-below : g.m < length now.q
      m-below = (let e = now.count in let p = g.place in omega arith)

      -- its vertex is an entry
      pub here_in : In here now.q
      here_in = at_in now.q g.m m-below

      -- a vertex of the tree
      pub here-below : here < n
      here-below = in-below n here now.q (partly-below (lists S) (centre S) g.m now.q now.partly) here_in

      -- and of the component
      here_inside : around par dep n w₀ c here ≡ true
      here_inside = partly_inside (lists S) (centre S) g.m now.q now.partly here here_in

      -- no more are taken than the component has
      few : length now.q ≤ size_of par dep n w₀ c
      few = partly_few (lists S) (centre S) g.m now.q now.partly

      -- it stands there
      pub at_vertex : at vs i ≡ here
      at_vertex =
          let r = a.vertex_room par dep S in
          let f = few in
          ap (λ (l : List ℕ). at l i) now.vertices
          ∙ ap (at (sets vs₀ from now.q)) g.place
          ∙ sets_at now.q vs₀ from g.m (omega arith) m-below

      -- a number made of it stands at the same place
      at_made : (f : ℕ → ℕ) (l l₀ : List ℕ) → from + size_of par dep n w₀ c ≤ length l₀ → l ≡ sets l₀ from (map f now.q) → at l i ≡ f here
      at_made f l l₀ r e =
          let long = length-map now.q f in
          let k = few in
          let b = m-below in
          ap (λ (o : List ℕ). at o i) e
          ∙ ap (at (sets l₀ from (map f now.q))) g.place
          ∙ sets_at (map f now.q) l₀ from g.m (omega arith) (omega arith)
          ∙ map_at f now.q g.m m-below

      -- with its distance
      pub at-distance : at ds i ≡ length (ptail par dep c here)
      at-distance = at_made (λ x. length (ptail par dep c x)) ds ds₀ (a.distance_room par dep S) now.distances

      -- and its branch
      pub at_branch : at bs i ≡ branch_of (ptail par dep) c here
      at_branch = at_made (branch_of (ptail par dep) c) bs bs₀ (a.branch_room par dep S) now.branches

      -- the levels in work are as they were
      level_kept : (v : ℕ) → v < n → level_in n w v ≡ at (levels_in n w₀) v
      level_kept v hv = g.only.after (level_of_at n v) (omega arith) ∙ sym (levels_at n w₀ v hv)

      -- what is entered is what it leads on to
      pub led : led_to os ts n c w (at vs i) ≡ next
      led =
          ap (led_to os ts n c w) at_vertex
          ∙ lead_same (lists S) a.centre (at (levels_in n w₀)) here-below here_inside (leads (level_in n w) c (at w (queue_at n here))) (λ y j.
          ap (λ (b : ℕ). leads (level_in n w) c b y) (now.backs here here_in)
          ∙ leads_same (at (levels_in n w₀)) c (branch_of (ptail par dep) here c) y (level_in n w) (level_kept c a.centre)
          (level_kept y (in-below n y (list_of os ts here) ((lists S).below here here-below) j)))

      -- there is room for it
      pub next_fits : t + length next ≤ from + size_of par dep n w₀ c
      next_fits =
          let A = list_of os ts in
          let C : ℕ → Bool = around par dep n w₀ c in
          let f = partly_few (lists S) (centre S) (g.m + 1) (now.q ++ next)
          (partly_more A (ptail par dep) C c g.m now.q m-below now.partly) in
          let l = length-append now.q next in
          let e = now.count in
          omega arith

    -- the list of the vertex at place i can be looked at
    pub walk_asks : i < t → ListAsks os ts n c i t vs ds bs w
    walk_asks more =
        let T = a.levelled.tree in
        let p = T.par in
        let d = T.dep in
        let S = T.spans in
        let long = walk_long in
        let f = next_fits more p d S in
        let e = ap length (led more p d S) in
        let r₁ = a.vertex_room p d S in
        let r₂ = a.distance_room p d S in
        let r₃ = a.branch_room p d S in
        let room = a.levelled.room in
        let short = path_short S.rooted a.centre (here-below more p d S) in
        let v = at_vertex more p d S in
        let k = at-distance more p d S in
        let b = here-below more p d S in
        record {
          tree = T;
          centre = a.centre;
          room = omega arith;
          vertex_place = omega arith;
          distance_place = omega arith;
          branch_place = omega arith;
          vertex = omega arith;
          near = omega arith;
          vertex_room = omega arith;
          distance_room = omega arith;
          branch_room = omega arith;
        }
