-- Condition 2 holds of every result that the calls' contracts allow.
use Rattle.std.specs.Prelude.{Ok}
use Prim.Native.Nat.{ℕ, ◌≤◌, ◌<◌}
use native.Mathlib.Omega.{arith}
use mathlib.Core.Path.{◌≡◌, refl}
use mathlib.Core.List.{List, [], ◌∷◌}
use lib.ListN.{length}
use borrow.Author.Tests.{le-leb, lt-ltb, eq-eqb}
use Rattle.sums.specs.Sum.{at}
use Rattle.paths.specs.Tree.{Tree}
use Rattle.answers.specs.Codes.{done, no_room}
use Rattle.answers.specs.Limits.{max_vertices}
use Rattle.graph.specs.Judgement.{test}
use Rattle.graph.specs.Lent.{vertices, list_of}
use Rattle.graph.specs.Validation.{Sized, room_of, validation, graph_tests}
use Rattle.graph.proofs.Passed.{AllPassed, all_passed, done_exactly, passed-front, passed_back, passed_join, passed_sound, sound_passed}
use Rattle.tables.specs.Tables.{Six}
use Rattle.hld.specs.Build.{building, Builds}
use Rattle.centroid.specs.Calls.{decomposing, Fitting, listing}
use Rattle.centroid.specs.Reads.{read_of}
use Rattle.demands.specs.Second.{InRange, Accepted, SecondDemand}
use Rattle.demands.proofs.Passed.{build_given}
use Rattle.demands.proofs.Numbers.{entries, answers, no_nine}
use Rattle.demands.proofs.Fitting.{lists_room}
use Rattle.demands.proofs.Centroids.{centroids, component_lists}

-- what the tests say of lists that pass them
in_range : {os ts : List ℕ} {root room : ℕ} → Sized os ts → room_of os ts ≤ room → AllPassed (graph_tests os ts root)
    → InRange os ts root room × Tree (vertices os) (list_of os ts)
in_range {os} {ts} {root} s r p =
    let g = passed_sound os ts root p in
    (record { sized = s; room_enough = r; offsets = g.offsets; targets = g.targets; root_below = g.root_below }, g.tree)

-- the tests that read the graph are passed by lists in range of a tree
tree_passes : {os ts : List ℕ} {root room : ℕ} → InRange os ts root room → Tree (vertices os) (list_of os ts) → AllPassed (graph_tests os ts root)
tree_passes {os} {ts} {root} i t =
    sound_passed os ts root (record { offsets = i.offsets; targets = i.targets; root_below = i.root_below; tree = t })

-- an entry is read from a table beside another of its length
entry_read : {os ts : List ℕ} (table other : List ℕ) (c : ℕ) → Sized os ts → length table ≡ vertices os → length other ≡ vertices os → c < vertices os
    → read_of table other c ≡ Ok (at table c)
entry_read {os} table other c s e f h =
    rw (
      e,
      f,
      le-leb 1 (vertices os) s.some_vertex,
      le-leb (vertices os) max_vertices s.few_vertices,
      eq-eqb (vertices os) (vertices os) refl,
      lt-ltb c (vertices os) h,
    )

-- 0 is answered exactly for trees
accepted : Accepted
accepted = record {
  validate_tree = λ {os} {ts} {w} {root = root} p.
      let d = done_exactly (validation os ts root (length w)) (omega arith) p.code in (
        λ z. let a = d.0 z in in_range a.0 a.1.0 a.1.1,
        λ h. d.1 (h.0.sized, (h.0.room_enough, tree_passes h.0 h.1)),
      );
  try_hld = λ {os} {ts} {w} {root = root} {t = t} p.
      let d = done_exactly (building os ts root t (length w)) (omega arith) p.code in (
        λ z.
            let a = d.0 z in
            let g = in_range a.0.sized a.1.0 a.1.1 in
            (g.0, a.0.tables, g.1),
        λ h. d.1 (record { sized = h.0.sized; tables = h.1 }, (h.0.room_enough, tree_passes h.0 h.2)),
      );
  decomposition = λ {os} {ts} {up} {level} {w} p.
      let d = done_exactly (decomposing os ts up level (length w)) (omega arith) p.code in (
        λ z.
            let a = d.0 z in
            let g = in_range a.0.sized a.1.0 a.1.1 in
            (g.0, a.0.tables.up_long, a.0.tables.level_long, g.1),
        λ h.
            d.1 (
              record { sized = h.0.sized; tables = record { up_long = h.1; level_long = h.2 } },
              (h.0.room_enough, tree_passes h.0 h.3),
            ),
      );
  component_lists = λ {os} {ts} {vs} {ds} {bs} {ss} {w} p.
      let d = done_exactly (listing os ts vs ds bs ss (length w)) (omega arith) p.code in
      let last = test no_room (Fitting os ts vs ds bs) ∷ [] in (
        λ z.
            let a = d.0 z in
            let g = in_range a.0 a.1.0.0 (passed-front (graph_tests os ts 0) last a.1.1) in
            (g.0, a.1.0.1, g.1, (passed_back (graph_tests os ts 0) last a.1.1).0),
        λ h. d.1 (h.0.sized, ((h.0.room_enough, h.1), passed_join (graph_tests os ts 0) last (tree_passes h.0 h.2) (h.3, tt))),
      );
  lists_room = lists_room;
}

-- the graph of a build that answered 0 is a tree
build_tree : {os ts w w' : List ℕ} {root : ℕ} {t t' : Six} → Builds os ts root t w t' w' done → Tree (vertices os) (list_of os ts)
build_tree b = ((accepted.try_hld b).0 refl).2

-- condition 2 of the tender
pub second_demand : SecondDemand
second_demand = record {
  accepted = accepted;
  numbers = λ b. entries (build_given b);
  answers = λ b. answers (build_given b) (build_tree b);
  no_nine = λ b. no_nine (build_given b);
  centroids = centroids;
  reads = λ {os} {ts} {up} {level} {w} {up'} {level'} d.
      let t = d.written refl in
      let s = (all_passed (decomposing os ts up level (length w)) (omega arith) d.code).0.sized in
      record { parent_read = λ {c} h. entry_read up' level' c s t.up_long t.level_long h; level_read = λ {c} h. entry_read level' up' c s t.level_long t.up_long h };
  component_lists = component_lists;
}
