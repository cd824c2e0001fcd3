-- The call from its beginning to its end: what each return leaves.
use Prim.Native.Nat.{ℕ, ◌+◌, ◌≤◌, ◌<◌, ◌^◌}
use native.Mathlib.Omega.{arith}
use native.Mathlib.Nat.{le_trans, le_of_eq, lt_of_le_of_lt, mul-le-mul_right}
use mathlib.Core.Path.{◌≡◌, refl}
use mathlib.Core.Logic.{inl, inr}
use mathlib.Core.List.{List, [], ◌∷◌}
use lib.ListN.{length}
use Rattle.sums.specs.Sum.{at}
use Rattle.sums.proofs.Sums.{sum_mono, sum_const}
use Rattle.answers.specs.Codes.{done, no_room}
use Rattle.graph.specs.Judgement.{test, First}
use Rattle.answers.specs.Limits.{most_chains}
use Rattle.answers.proofs.Bounds.{totals_small, chains_few}
use Rattle.graph.specs.Lent.{vertices}
use Rattle.graph.specs.Validation.{room_of, graph_tests}
use Rattle.graph.specs.Steps.{Begun}
use Rattle.graph.specs.Work.{Only, Zeroed}
use Rattle.graph.proofs.Frames.{only_trans, only_wider}
use Rattle.graph.proofs.Passed.{AllPassed, done_exactly, first_back, tests-joined, passed_sound}
use Rattle.graph.proofs.Calling.{whole_call}
use Rattle.validate.specs.Judged.{Judged}
use Rattle.centroid.specs.Regions.{level_of_at}
use Rattle.centroid.specs.Calls.{Fitting, list_tests, Lists}
use Rattle.centroid.proofs.Calling.{lent_tree}
use Rattle.centroidlaws.proofs.Halving.{level_bound}
use Rattle.centroidlaws.proofs.Passed.{Passed, sound_rooted}
use Rattle.centroidlaws.proofs.SameLists.{lists_total}
use Rattle.centroidlaws.proofs.Determined.{fitting-total}
use Rattle.components.specs.Levels.{total_in, FindAsks, LevelsFound, TotalAsks}
use Rattle.components.specs.Listing.{AllAsks, AllListed, GraphListed}
use Rattle.components.proofs.Held.{levels_at, total_levels}

-- an accepted graph
module _ {os ts w : List ℕ} (b : Begun os ts w) {w₁ : List ℕ} (j : Judged os ts 0 w w₁ done) where
  -- the tests 3 to 8 are passed
  judged : AllPassed (graph_tests os ts 0)
  judged = (done_exactly (graph_tests os ts 0) (omega arith) j.code).0 refl

  -- so the graph is a tree
  passed : Passed os ts
  passed = sound_rooted (passed_sound os ts 0 judged)

  -- the levels can be found
  pub tree_asks : FindAsks os ts (vertices os) w₁
  tree_asks = record { tree = lent_tree b.sized j refl; room = omega (arith, b.room, j.only.same_length) }

  module _ {w₂ : List ℕ} (f : LevelsFound os ts (vertices os) w₁ w₂) where
    -- no level exceeds the most chains
    level_low : (v : ℕ) → v < vertices os → at w₂ (level_of_at (vertices os) v) ≤ most_chains
    level_low v hv =
        omega (
          arith,
          level_bound passed.listed.spans f.decomposition hv,
          chains_few (vertices os) b.sized.some_vertex b.sized.few_vertices,
          levels_at (vertices os) w₂ v hv,
        )

    -- so their sum can be taken
    pub total_asks : TotalAsks (vertices os) w₂
    total_asks = record { few = b.sized.few_vertices; room = omega (arith, b.room, j.only.same_length, f.only.same_length); low = level_low }

    -- and is small
    total_small : total_in (vertices os) w₂ < 2 ^ 32
    total_small =
        let n : ℕ = vertices os in
        let m = sum_mono n (λ v. at w₂ (level_of_at n v) + 1) (λ v. most_chains + 1) (λ v hv. omega (arith, level_low v hv)) in
        lt_of_le_of_lt
        (le_trans m (le_trans (le_of_eq (sum_const n (most_chains + 1))) (mul-le-mul_right (most_chains + 1) b.sized.few_vertices)))
        totals_small

    -- what was written so far
    judged_only : Only 0 (room_of os ts) w w₂
    judged_only = only_trans j.only (only_wider (omega arith) (omega arith) f.only)

    -- the code once the lists decide
    last : (vs ds bs ss : List ℕ) {d : ℕ} → vertices os + 1 ≤ length ss → First (test no_room (Fitting os ts vs ds bs) ∷ []) d
        → First (test no_room (vertices os + 1 ≤ length ss) ∷ list_tests os ts vs ds bs) d
    last vs ds bs ss {d} starts p = inr (starts, first_back (graph_tests os ts 0) (test no_room (Fitting os ts vs ds bs) ∷ []) d judged p)

    -- t is the length of the lists
    module _ {vs ds bs ss : List ℕ} (starts : vertices os + 1 ≤ length ss) {t : ℕ} (total : t ≡ total_in (vertices os) w₂) where
      -- a list is longer than its room
      pub not_fitting : ((t ≤ length vs) × (t ≤ length ds) × (t ≤ length bs) → ⊥) → GraphListed os ts vs ds bs ss w vs ds bs ss w₂ no_room
      not_fitting no-fit = record {
        code = last vs ds bs ss starts (inl (
          (λ F.
              let r = fitting-total os ts vs ds bs passed f.decomposition F in
              let q = total_levels (vertices os) w₂ in
              no-fit (omega arith, omega arith, omega arith)),
          refl,
        ));
        written = λ q. absurd (omega arith);
        refused = λ q. refl;
        only = judged_only;
      }

      module _ (fits : (t ≤ length vs) × (t ≤ length ds) × (t ≤ length bs)) where
        -- all lists fit and can be written
        pub list_asks : AllAsks os ts (vertices os) vs ds bs ss w₂
        list_asks = record {
          levelled = record {
            tree = lent_tree b.sized j refl;
            room = total_asks.room;
            up = f.up;
            decomposition = f.decomposition;
          };
          starts_room = starts;
          small = total_small;
          vertex_room = omega (arith, total, fits);
          distance_room = omega (arith, total, fits);
          branch_room = omega (arith, total, fits);
        }

        -- and are
        pub listed : {vs' ds' bs' ss' w₃ : List ℕ} → AllListed os ts (vertices os) vs ds bs ss w₂ vs' ds' bs' ss' w₃
            → GraphListed os ts vs ds bs ss w vs' ds' bs' ss' w₃ done
        listed d =
            let l = lists_total passed.listed f.decomposition d.lists in
            let q = total_levels (vertices os) w₂ in
            record {
              code = last vs ds bs ss starts (inr (
                record {
                  l₁ = d.l₁;
                  l₂ = d.l₂;
                  l₃ = d.l₃;
                  l₄ = d.l₄;
                  lists = d.lists;
                  vertex_room = omega (arith, total, fits, l);
                  distance_room = omega (arith, total, fits, l);
                  branch_room = omega (arith, total, fits, l);
                },
                refl,
              ));
              written = λ y. (d.l₁, d.l₂, d.l₃, d.l₄, d.lists, d.vertices, d.distances, d.branches, d.starts);
              refused = λ ne. absurd (ne refl);
              only = only_trans judged_only (only_wider (omega arith) (omega arith) d.only);
            }

-- the whole call: the room of the starts is tested with that of work; what stands in the lent lists is what was left in them
pub lists_whole : {os ts vs ds bs ss w vs' ds' bs' ss' w₁ w₂ vs'' ds'' bs'' : List ℕ} {c : ℕ} → Begun os ts w
    → GraphListed os ts vs ds bs ss w vs' ds' bs' ss' w₁ c → Zeroed 0 (room_of os ts) w₁ w₂ → vs'' ≡ vs' → ds'' ≡ ds' → bs'' ≡ bs'
    → Lists os ts vs ds bs ss w vs'' ds'' bs'' ss' w₂ c
lists_whole {os} {ts} {vs} {ds} {bs} b p z e₁ e₂ e₃ =
    let v = whole_call b.sized b.room b p z in
    rw (e₁, e₂, e₃) (record {
      code = inr (b.sized, tests-joined (list_tests os ts vs ds bs) (inr (b.room, p.code)));
      written = v.written;
      refused = v.refused;
      work = v.work;
    })
