-- The loop over the centroids: the lists of the first c stand one behind the other, and the next one fits.
use Prim.Native.Nat.{ℕ, suc, ◌+◌, ◌≤◌, ◌<◌}
use native.Mathlib.Omega.{arith}
use mathlib.Core.Path.{◌≡◌, refl, sym, ap, subst, ◌∙◌}
use mathlib.Core.List.{List, [], map}
use lib.ListN.{length}
use lib.Seq.{sets, length-sets}
use Rattle.sums.specs.Sum.{at, sum, how_many}
use Rattle.sums.proofs.Sums.{sum_ext, sum_shorter}
use Rattle.paths.specs.Walk.{Stands}
use Rattle.paths.specs.Rooted.{Spans}
use Rattle.paths.specs.Route.{ptail}
use Rattle.graph.specs.Lent.{list_of}
use Rattle.graph.specs.Work.{Only}
use Rattle.graph.proofs.Frames.{only_refl}
use Rattle.centroid.specs.Components.{component_of}
use Rattle.centroid.specs.Decomposition.{DecompositionOf}
use Rattle.centroid.specs.Lists.{Breadth, branch_of, joined}
use Rattle.centroid.specs.Regions.{queue_from, met_from}
use Rattle.centroidlaws.proofs.Parents.{decomposed}
use Rattle.centroidlaws.proofs.Before.{Listed}
use Rattle.centroidlaws.proofs.Entries.{component_around, breadth-holds}
use Rattle.centroidlaws.proofs.SameLists.{joined_length}
use Rattle.centroidlaws.proofs.Totals.{components-total}
use Rattle.components.specs.Levels.{levels_in, total_in}
use Rattle.components.specs.Listing.{size_of, ComponentAsks, AllAsks}
use Rattle.components.proofs.Leading.{tree_listed}
use Rattle.components.proofs.Held.{levels_kept, total_levels}

-- q has the breadth first lists of the first c vertices, which stand in the lent lists up to place `from`; w₀ has the levels
pub record GatherBy (os ts : List ℕ) (n : ℕ) (par dep : ℕ → ℕ) (vs₀ ds₀ bs₀ w₀ vs ds bs ss : List ℕ) (c from : ℕ) : Type 0 where
  pub q : ℕ → List ℕ
  pub breadth : (b : ℕ) → b < c → Breadth (list_of os ts) (ptail par dep) (component_of (ptail par dep) (at (levels_in n w₀)) b) b (q b)
  pub count : from ≡ length (joined q c)
  pub vertices : vs ≡ sets vs₀ 0 (joined q c)
  pub distances : ds ≡ sets ds₀ 0 (joined (λ b. map (λ x. length (ptail par dep b x)) (q b)) c)
  pub branches : bs ≡ sets bs₀ 0 (joined (λ b. map (branch_of (ptail par dep) b) (q b)) c)
  pub starts : (b : ℕ) → b < c → at ss b ≡ length (joined q b)

-- the same for all parents and depths, with what was written
pub record Gathering (os ts : List ℕ) (n : ℕ) (vs₀ ds₀ bs₀ ss₀ w₀ vs ds bs ss w : List ℕ) (c from : ℕ) : Type 0 where
  pub within : c ≤ n
  pub gathered : (par dep : ℕ → ℕ) → Spans n (Stands (list_of os ts)) 0 par dep → GatherBy os ts n par dep vs₀ ds₀ bs₀ w₀ vs ds bs ss c from
  pub starts_only : Only 0 n ss₀ ss
  pub only : Only (queue_from n) (met_from n) w₀ w

module _ {os ts : List ℕ} {n : ℕ} {vs₀ ds₀ bs₀ ss₀ w₀ : List ℕ} (a : AllAsks os ts n vs₀ ds₀ bs₀ ss₀ w₀) where
  -- none is listed
  pub gather_start : Gathering os ts n vs₀ ds₀ bs₀ ss₀ w₀ vs₀ ds₀ bs₀ ss₀ w₀ 0 0
  gather_start = record {
    within = omega arith;
    gathered = λ par dep S. record {
      q = λ b. [];
      breadth = λ b h. absurd (omega arith);
      count = refl;
      vertices = refl;
      distances = refl;
      branches = refl;
      starts = λ b h. absurd (omega arith);
    };
    starts_only = only_refl 0 n ss₀;
    only = only_refl (queue_from n) (met_from n) w₀;
  }

  -- the tree's lists
  pub all_listed : {par dep : ℕ → ℕ} → Spans n (Stands (list_of os ts)) 0 par dep → Listed n (list_of os ts) par dep
  all_listed S = tree_listed a.levelled.tree S

  module _ {vs ds bs ss w : List ℕ} {c from : ℕ} (g : Gathering os ts n vs₀ ds₀ bs₀ ss₀ w₀ vs ds bs ss w c from) where
    -- the lists have as many entries as the components have vertices
    pub gather_size : (par dep : ℕ → ℕ) (S : Spans n (Stands (list_of os ts)) 0 par dep) → from ≡ sum c (size_of par dep n w₀)
    gather_size par dep S =
        let G = g.gathered par dep S in
        let h = g.within in
        G.count
        ∙ joined_length G.q c
        ∙ sum_ext c (λ b. length (G.q b)) (size_of par dep n w₀) (λ b hb.
        (breadth-holds (all_listed S) (component_around (decomposed S a.levelled.decomposition) (let k : b < n = omega arith in k)) (G.breadth b hb)).size)

    -- all together as many as the total says
    sizes : (par dep : ℕ → ℕ) (S : Spans n (Stands (list_of os ts)) 0 par dep) → sum n (size_of par dep n w₀) ≡ total_in n w₀
    sizes par dep S = components-total S a.levelled.decomposition ∙ sym (total_levels n w₀)

    -- no place is behind the total
    pub gather_low : from ≤ total_in n w₀
    gather_low =
        let T = a.levelled.tree in
        let s = gather_size T.par T.dep T.spans in
        let z = sizes T.par T.dep T.spans in
        let m = sum_shorter c n (size_of T.par T.dep n w₀) g.within in
        omega arith

    -- the lists, the starts and work are as long as before
    pub gather_long : (length vs ≡ length vs₀) × (length ds ≡ length ds₀) × (length bs ≡ length bs₀) × (length ss ≡ length ss₀) × (length w ≡ length w₀)
    gather_long =
        let T = a.levelled.tree in
        let G = g.gathered T.par T.dep T.spans in
        let way = ptail T.par T.dep in (
          ap length G.vertices ∙ length-sets vs₀ 0 (joined G.q c),
          ap length G.distances ∙ length-sets ds₀ 0 (joined (λ b. map (λ x. length (way b x)) (G.q b)) c),
          ap length G.branches ∙ length-sets bs₀ 0 (joined (λ b. map (branch_of way b) (G.q b)) c),
          g.starts_only.same_length,
          g.only.same_length,
        )

    -- the levels in work are as they were
    pub gather_levels : levels_in n w₀ ≡ levels_in n w
    gather_levels = levels_kept n (omega arith) a.levelled.room g.only

    -- the next component can be listed
    pub gather_asks : c < n → ComponentAsks os ts n c from vs ds bs w
    gather_asks hc =
        let fits : (par dep : ℕ → ℕ) → Spans n (Stands (list_of os ts)) 0 par dep → from + size_of par dep n w c ≤ total_in n w₀ = λ par dep S.
        (let s = gather_size par dep S in
        let z = sizes par dep S in
        let m = sum_shorter (suc c) n (size_of par dep n w₀) (omega arith) in
        let e = ap (λ (l : List ℕ). how_many n (component_of (ptail par dep) (at l) c)) gather_levels in
        omega arith) in
        let long = gather_long in
        let r₁ = a.vertex_room in
        let r₂ = a.distance_room in
        let r₃ = a.branch_room in
        record {
          levelled = record {
            tree = a.levelled.tree;
            room = (let r = a.levelled.room in omega arith);
            up = a.levelled.up;
            decomposition = subst (DecompositionOf n (list_of os ts) a.levelled.up) gather_levels a.levelled.decomposition;
          };
          centre = hc;
          vertex_room = λ par dep S. (let f = fits par dep S in omega arith);
          distance_room = λ par dep S. (let f = fits par dep S in omega arith);
          branch_room = λ par dep S. (let f = fits par dep S in omega arith);
        }
