-- The decomposition and the component lists of a tree, by any way of its simple paths.
use Prim.Native.Nat.{ℕ, suc, ◌+◌, ◌≤◌, ◌<◌}
use native.Mathlib.Omega.{arith}
use native.Mathlib.Numerals.{add-one}
use native.Mathlib.Nat.{le_trans}
use mathlib.Core.Path.{◌≡◌, refl, sym, ap, ◌∙◌}
use mathlib.Core.Logic.{◌↔◌}
use mathlib.Core.Bool.{true}
use mathlib.Core.List.{List, map}
use lib.ListN.{length, drop, length-append, get_or-append}
use lib.Seq.{slice}
use Rattle.sums.specs.Sum.{at}
use Rattle.paths.specs.Walk.{In, Stands}
use Rattle.paths.specs.Rooted.{Spans}
use Rattle.paths.specs.Route.{ptail}
use Rattle.answers.specs.Codes.{done}
use Rattle.answers.specs.Limits.{max_vertices}
use Rattle.graph.specs.Lent.{vertices, list_of}
use Rattle.centroid.specs.Components.{Ways, component_of, in_part}
use Rattle.centroid.specs.Decomposition.{DecompositionOf}
use Rattle.centroid.specs.Lists.{branch_of, joined, ListsOf}
use Rattle.paths.specs.Lists.{front}
use Rattle.centroid.specs.Calls.{decomposing, Decomposes, listing, Lists}
use Rattle.centroid.proofs.Ways.{SameWay, span_ways, ways_same, component_same, part_same}
use Rattle.centroidlaws.proofs.Before.{Listed}
use Rattle.graph.proofs.Passed.{all_passed}
use Rattle.answers.proofs.Bounds.{vertices_parents}
use Rattle.centroidlaws.proofs.Parts.{parent-part}
use Rattle.centroidlaws.proofs.Halving.{level_bound}
use Rattle.centroidlaws.proofs.SameLists.{joined-map, list-holds, lists_total}
use Rattle.centroidlaws.proofs.Determined.{decomposing_passed, listing_passed}
use Rattle.demands.specs.Centroids.{Centroids, ComponentLists}
use Rattle.demands.proofs.Parts.{joined-part}

module _
    {n : ℕ} {A : ℕ → List ℕ} {par dep : ℕ → ℕ} {up level : List ℕ}
    (few : n ≤ max_vertices) (S : Spans n (Stands A) 0 par dep) (D : DecompositionOf n A up level)
  where
    -- a component is a part of its parent's
    part_of : {way : ℕ → ℕ → List ℕ} {c : ℕ} → Ways n A way → c < n → at up c < n → (x : ℕ) → x < n
        → component_of way (at level) c x ≡ in_part way (component_of way (at level) (at up c)) (at up c) c x
    part_of {way} {c} W hc hp x hx =
        let p = at up c in
        let ways : SameWay n (ptail par dep) way = ways_same S W in
        let same = component_same n (ptail par dep) way ways (at level) hp in
        sym (component_same n (ptail par dep) way ways (at level) hc x hx)
        ∙ (parent-part (le_trans few vertices_parents) S D hc hp).part x hx
        ∙ part_same n (ptail par dep) way (component_of (ptail par dep) (at level) p) (component_of way (at level) p) ways same p hc hx

    -- the decomposition
    centroids_of : Centroids n A up level
    centroids_of = record {
      up_long = D.up_long;
      level_long = D.level_long;
      has_ways = (ptail par dep, span_ways S);
      centroid = λ {way} {c} W hc. D.centroids way W c hc;
      part = part_of;
      level_bound = λ hc. (level_bound S D hc).1;
    }

-- what `try_centroid_decomposition` leaves
pub centroids :
    {os ts up level w up' level' w' : List ℕ} → Decomposes os ts up level w up' level' w' done → Centroids (vertices os) (list_of os ts) up' level'
centroids {os} {ts} {up} {level} {w} p =
    let f = (all_passed (decomposing os ts up level (length w)) (omega arith) p.code).0 in
    let g = decomposing_passed os ts up level (length w) p.code in
    centroids_of f.sized.few_vertices g.listed.spans (p.written refl)

module _
    {n : ℕ} {A : ℕ → List ℕ} {par dep : ℕ → ℕ} (few : n ≤ max_vertices) (T : Listed n A par dep)
    (vs ds bs ss : List ℕ) {vs' ds' bs' ss' l₁ l₂ l₃ l₄ : List ℕ} (L : ListsOf n A l₁ l₂ l₃ l₄)
    (f₁ : vs' ≡ front l₁ vs) (f₂ : ds' ≡ front l₂ ds) (f₃ : bs' ≡ front l₃ bs) (f₄ : ss' ≡ front l₄ ss)
  where
    -- the start of c is the length of the lists before it
    start_of : (c : ℕ) → c < n + 1 → at ss' c ≡ length (joined L.q c)
    start_of c h =
        let e = L.starts_long in
        ap (λ (l : List ℕ). at l c) f₄ ∙ get_or-append l₄ (drop (length l₄) ss) 0 c (omega arith) ∙ L.all_starts c h

    -- and so is the next one
    start_next : {c : ℕ} → c < n → at ss' (c + 1) ≡ length (joined L.q (suc c))
    start_next {c} h = start_of (c + 1) (omega arith) ∙ ap (λ (k : ℕ). length (joined L.q k)) (add-one c)

    -- the part of c in numbers that are made of the entries
    made-part : (f : ℕ → ℕ → ℕ) (lent : List ℕ) {l lent' : List ℕ} {c : ℕ} → c < n → l ≡ joined (λ c. map (f c) (L.q c)) n → lent' ≡ front l lent
        → slice (at ss' c) (at ss' (c + 1)) lent' ≡ map (f c) (L.q c)
    made-part f lent {c = c} h e front =
        joined-part (λ c. map (f c) (L.q c)) n lent h e front
        (start_of c (omega arith) ∙ sym (joined-map f L.q c))
        (start_next h ∙ sym (joined-map f L.q (suc c)))

    -- each list has the vertices of its component
    component_of_lem : {way : ℕ → ℕ → List ℕ} {c : ℕ} → Ways n A way → c < n → (x : ℕ)
        → In x (L.q c) ↔ ((x < n) × (component_of way (at L.level) c x ≡ true))
    component_of_lem {way} {c} W hc x =
        let same = component_same n (ptail par dep) way (ways_same T.spans W) (at L.level) hc x in
        let h = (list-holds T L c hc).exactly x in
        (λ i. let p = h.0 i in (p.0, sym (same p.0) ∙ p.1), λ p. h.1 (p.0, same p.0 ∙ p.1))

    -- the component lists
    lists_of : ComponentLists n A vs' ds' bs' ss'
    lists_of = record {
      up = L.up;
      level = L.level;
      decomposition = centroids_of few T.spans L.decomposition;
      list = L.q;
      breadth_first = λ {way} {c} W hc. L.breadth way W c hc;
      component = component_of_lem;
      each_once = λ {c} hc. (list-holds T L c hc).once;
      first_start = start_of 0 (omega arith);
      next_start = λ {c} hc.
          start_next hc ∙ length-append (joined L.q c) (L.q c) ∙ ap (λ (k : ℕ). k + length (L.q c)) (sym (start_of c (omega arith)));
      vertex_part = λ {c} hc. joined-part L.q n vs hc L.all_vertices f₁ (start_of c (omega arith)) (start_next hc);
      distance_part = λ {way} W hc. made-part (λ c x. length (way c x)) ds hc (L.all_distances way W) f₂;
      branch_part = λ {way} W hc. made-part (branch_of way) bs hc (L.all_branches way W) f₃;
      total = start_of n (omega arith) ∙ sym (ap length L.all_vertices) ∙ lists_total T L.decomposition L;
    }

-- what `component_lists` leaves
pub component_lists :
    {os ts vs ds bs ss w vs' ds' bs' ss' w' : List ℕ} → Lists os ts vs ds bs ss w vs' ds' bs' ss' w' done
    → ComponentLists (vertices os) (list_of os ts) vs' ds' bs' ss'
component_lists {os} {ts} {vs} {ds} {bs} {ss} {w} p =
    let f = (all_passed (listing os ts vs ds bs ss (length w)) (omega arith) p.code).0 in
    let g = listing_passed os ts vs ds bs ss (length w) p.code in
    let a = p.written refl in
    lists_of f.few_vertices g.listed vs ds bs ss a.4 a.5 a.6 a.7 a.8
