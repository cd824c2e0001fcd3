-- The passes of the build put together: the tables that they leave are those of 01.
use Prim.Native.Nat.{ℕ, suc, ◌+◌, ◌-◌, ◌*◌, ◌≤◌, ◌<◌, ◌^◌}
use native.Mathlib.Omega.{arith}
use mathlib.Core.Path.{◌≡◌, refl, sym, ap, ◌∙◌}
use mathlib.Core.List.{List}
use lib.Dec.{eqb}
use lib.ListN.{length}
use Rattle.sums.specs.Sum.{at}
use Rattle.paths.specs.Walk.{Below}
use Rattle.paths.specs.Tree.{Tree}
use Rattle.numbering.specs.Numbering.{total}
use Rattle.paths.proofs.Kept.{keep_ext}
use Rattle.passes.specs.Passes.{from, run, heavy_of, region, Weighed, WeighAsks, WeighAnswers}
use Rattle.ranks.specs.Ranks.{Ranked, NumberAsks, NumberAnswers}
use Rattle.passes.proofs.Runs.{from_in}
use Rattle.visit.specs.Visit.{Visited, queue_in, up_in}
use Rattle.visit.proofs.Positions.{Places, places, visited_same}
use Rattle.tables.specs.Tables.{Six, Long, TablesOf}
use Rattle.scatter.specs.Scatter.{ScatterAsks, Filled}
use Rattle.hld.proofs.Tabled.{Holds, table_span, table_arrangement}
use Rattle.hld.proofs.Ranks.{tops-below, ranks_injective, ranks-below}
use Rattle.scatter.proofs.Above.{parent_first, parent_later}

-- weights are told by the parents of the positions below n alone
pub weighed_same : {n : ℕ} {p p' s h : ℕ → ℕ} → ((j : ℕ) → 0 < j → j < n → p j ≡ p' j) → Weighed n p s h → Weighed n p' s h
weighed_same {n} {p} {p'} {s} {h} same w =
    record {
      size = λ i hi. w.size i hi ∙ ap (λ (l : List ℕ). suc (total s l)) (runs i hi);
      heavy = λ i hi. w.heavy i hi ∙ ap (heavy_of s) (runs i hi);
    }
  where
    runs : (i : ℕ) → i < n → run p n i ≡ run p' n i
    runs i hi =
        keep_ext (λ k. eqb (p k) i) (λ k. eqb (p' k) i) (from 1 (n - 1))
        (λ k m. (let r = (from_in 1 (n - 1) k).0 m in ap (λ (x : ℕ). eqb x i) (same k (omega arith) (omega arith))))

module _ {n : ℕ} (A : ℕ → List ℕ) {root : ℕ} {e : ℕ → ℕ} (w₁ w₂ w₃ : List ℕ) (small : n < 2 ^ 31) (room : 8 * n ≤ length w₁)
    (vis : Visited n A root (queue_in w₁ 0) (up_in w₁ n 0) e n) where
  some : 1 ≤ n
  some = (let z = vis.some in omega arith)

  -- the visit's parents, as the passes read them
  up_one : (j : ℕ) → up_in w₁ n 0 j ≡ region 1 n w₁ j
  up_one j = ap (at w₁) (let z : 0 + n + j ≡ 1 * n + j = omega arith in z)

  pub weigh_asks : WeighAsks n w₁
  weigh_asks =
      record {
        some_vertex = some;
        small = small;
        room = room;
        earlier = λ j a h. (let z = up_one j in let k = vis.earlier j a h in omega arith);
      }

  module _ (a₂ : WeighAnswers n w₁ w₂) where
    up-two : (j : ℕ) → j < n → region 1 n w₂ j ≡ region 1 n w₁ j
    up-two j h = a₂.only.before (1 * n + j) (omega arith)

    pub number_asks : NumberAsks n w₂
    number_asks =
        record {
          some_vertex = some;
          small = small;
          room = omega (arith, a₂.only.same_length);
          earlier = λ j a h. (let z = up_one j in let y = up-two j h in let k = vis.earlier j a h in omega arith);
          weighed = weighed_same (λ j a h. sym (up-two j h)) a₂.weighed;
        }

    module _ (a₃ : NumberAnswers n w₂ w₃) (tree : Tree n A) (below : (u : ℕ) → u < n → Below n (A u)) where
      W : Weighed n (region 1 n w₂) (region 2 n w₂) (region 3 n w₂)
      W = number_asks.weighed

      K : Ranked n (region 1 n w₂) (region 2 n w₂) (region 3 n w₂) (region 4 n w₃) (region 6 n w₃) (region 7 n w₃)
      K = a₃.ranked

      -- the queue stands where it stood
      queue_kept : (j : ℕ) → j < n → at w₃ j ≡ queue_in w₁ 0 j
      queue_kept j h = a₃.only.before j (omega arith) ∙ a₂.only.before j (omega arith) ∙ ap (at w₁) (let z : j ≡ 0 + j = omega arith in z)

      up_kept : (j : ℕ) → 0 < j → j < n → region 1 n w₂ j ≡ up_in w₁ n 0 j
      up_kept j a h = up-two j h ∙ sym (up_one j)

      vis' : Visited n A root (at w₃) (region 1 n w₂) e n
      vis' = visited_same queue_kept up_kept vis

      g : ℕ → ℕ
      g = (places vis').0

      pl : Places n (at w₃) g
      unfolding g
      pl = (places vis').1

      up_three : (j : ℕ) → j < n → region 1 n w₃ j ≡ region 1 n w₂ j
      up_three j h = a₃.only.before (1 * n + j) (omega arith)

      pub scatter_asks : {t : Six} → Long n t → ScatterAsks n w₃ t
      scatter_asks l =
          record {
            long = l;
            room = omega (arith, a₂.only.same_length, a₃.only.same_length);
            vertices = vis'.below;
            ups = λ j a h. (let z = up_three j h in let k = vis'.earlier j a h in omega arith);
            tops = λ j h. tops-below vis'.earlier K j j (omega arith) h;
            numbers = ranks-below A vis' pl tree below W K;
            vertex_once = vis'.once;
            number_once = ranks_injective A vis' pl tree below W K;
          }

      module _ {t : Six} (f : Filled n w₃ n t) where
        holds : Holds n (at w₃) (region 1 n w₂) (region 2 n w₂) (region 4 n w₃) (region 6 n w₃) (region 7 n w₃)
            (at t.parent) (at t.depth) (at t.head) (at t.id) (at t.size)
        holds =
            record {
              par_at = λ j a h. f.parents j h ∙ parent_later n w₃ j a ∙ ap (at w₃) (up_three j h);
              dep_at = f.depths;
              head_at = f.heads;
              id_at = f.ids;
              size_at_lem = λ j h. f.sizes j h ∙ a₃.only.before (2 * n + j) (omega arith);
            }

        -- the tables of 01
        pub tables_built : TablesOf n A root t
        tables_built =
            record {
              long = f.long;
              spans = table_span A vis' pl tree below W K holds;
              no_parent = ap (at t.parent) (sym vis'.start) ∙ f.parents 0 vis'.some ∙ parent_first n w₃ 0 refl;
              numbering = record {
                arrangement = table_arrangement A vis' pl tree below W K holds;
                inverse = λ v hv. (let j = g v in let b = pl.below v hv in
                    ap (at t.order) (ap (at t.id) (sym (pl.back v hv)) ∙ f.ids (g v) b) ∙ f.orders (g v) b ∙ pl.back v hv);
              };
            }
