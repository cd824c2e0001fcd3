-- Condition 3 holds after every build that answered 0.
use Rattle.std.specs.Prelude.{Ok, Err}
use Prim.Native.Nat.{ℕ, ◌+◌, ◌*◌, ◌≤◌, ◌<◌}
use native.Mathlib.Omega.{arith}
use mathlib.Core.Path.{◌≡◌, sym, subst, ◌∙◌}
use mathlib.Core.List.{List, ◌∷◌, ◌++◌}
use lib.ListN.{length, drop}
use borrow.Author.Tests.{le-leb}
use Rattle.paths.proofs.Listed.{in-below}
use Rattle.paths.proofs.Unique.{path_simple}
use Rattle.answers.specs.Limits.{max_vertices}
use Rattle.numbering.specs.Log.{log2}
use Rattle.numbering.proofs.Logs.{log2_low, log2_high}
use Rattle.tables.specs.Tables.{Six}
use Rattle.queries.specs.Queries.{lca}
use Rattle.answers.specs.declared.answer.Refusal.TheVariants.{NoRoom}
use Rattle.answers.proofs.Choices.{pick_true}
use Rattle.pathlaws.specs.Given.{Given}
use Rattle.pathlaws.proofs.Lca.{lca_common, lca_any_order}
use Rattle.pathlaws.proofs.SimplePaths.{lca_simple}
use Rattle.ranges.specs.Flat.{stride, flat}
use Rattle.ranges.specs.Calls.{Answered, listed, ranges_of, ListedAs}
use Rattle.ranges.specs.declared.kinds.PathRange.{PathRange}
use Rattle.ranges.specs.declared.kinds.Kind.{Kind}
use Rattle.ranges.specs.declared.kinds.Kind.TheVariants.{Vertices}
use Rattle.ranges.proofs.Few.{ranges_enough}
use Rattle.readings.proofs.Bounds.{ranges_room}
use Rattle.readings.proofs.PathReadings.{ranges_turn}
use Rattle.readings.proofs.SimpleReadings.{vertices_simple, ranges_simple_cut, simple_last}
use Rattle.records.specs.Records.{RecordedAs}
use Rattle.demands.specs.Numbers.{OnPath}
use Rattle.demands.specs.Third.{OnAllThree, InEveryOrder, Routes, RangeRoom, ThirdDemand}
use Rattle.demands.proofs.Passed.{build_given}
use Rattle.demands.proofs.Found.{ranges_of_lem, ranges_there}
use Rattle.answers.specs.Answers.{Answer, Listed}

-- two numbers answered to one question are one
one_number : {a : Answer} {x y : ℕ} → a ≡ Ok x → a ≡ Ok y → x ≡ y
one_number e f = cc

module _ {n root : ℕ} {A : ℕ → List ℕ} {t : Six} {kids : ℕ → List ℕ} (G : Given n A root t kids) where
  -- there are few of them
  ranges_few : (kind : Kind) {u v : ℕ} → u < n → v < n → {l : List PathRange} → ranges_of kind t u v ≡ listed l → length l ≤ 2 * log2 n + 1
  ranges_few kind hu hv {l} e = ranges_room G kind hu hv l (ranges_of_lem G kind hu hv e)

  -- a list of that room holds them all
  list_whole :
      (kind : Kind) {u v : ℕ} → u < n → v < n → {lent left : List ℕ} {r : Listed} → ListedAs (ranges_of kind t u v) lent left r
      → stride * (2 * log2 n + 1) ≤ length lent
      → (l : List PathRange) × (ranges_of kind t u v ≡ listed l) × (r ≡ Ok (length l)) × (left ≡ flat l ++ drop (stride * length l) lent)
  list_whole kind hu hv {lent} {left} {r} p h =
      let f = ranges_there G kind hu hv in
      let l : List PathRange = f.0 in
      let few = ranges_few kind hu hv f.1 in
      let q = subst (λ (b : Answered). ListedAs b lent left r) f.1 p in
      let e = le-leb (stride * length l) (length lent) (omega arith) in
      (l, f.1, q.answer ∙ pick_true (Ok (length l)) (Err NoRoom) e, q.list ∙ pick_true (flat l ++ drop (stride * length l) lent) lent e)

  -- so does a slice of records
  record_whole :
      (kind : Kind) {u v : ℕ} → u < n → v < n → {lent left : List PathRange} {r : Listed} → RecordedAs (ranges_of kind t u v) lent left r
      → 2 * log2 n + 1 ≤ length lent
      → (l : List PathRange) × (ranges_of kind t u v ≡ listed l) × (r ≡ Ok (length l)) × (left ≡ l ++ drop (length l) lent)
  record_whole kind hu hv {lent} {left} {r} p h =
      let f = ranges_there G kind hu hv in
      let l : List PathRange = f.0 in
      let few = ranges_few kind hu hv f.1 in
      let q = subst (λ (b : Answered). RecordedAs b lent left r) f.1 p in
      let e = le-leb (length l) (length lent) (omega arith) in
      (l, f.1, q.answer ∙ pick_true (Ok (length l)) (Err NoRoom) e, q.list ∙ pick_true (l ++ drop (length l) lent) lent e)

  -- a vertex of a simple path is one of the tree
  on_vertex : {u v w : ℕ} → OnPath n A u v w → w < n
  on_vertex {u} {v} {w} p = in-below n w (u ∷ p.0) p.1.below p.2

  -- a vertex on all three paths is the answer of `lca`
  common-lca : (m : ℕ) {r u v : ℕ} → OnAllThree n A r u v m → lca t r u v ≡ Ok m
  common-lca m c = lca_simple G m c.from_u_to_v.1 c.from_r_to_u.1 c.from_r_to_v.1 c.from_u_to_v.2 c.from_r_to_u.2 c.from_r_to_v.2

  -- there is exactly one, and it is the answer in every order
  lca-one :
      {r u v : ℕ} → r < n → u < n → v < n
      → (m : ℕ) × InEveryOrder t r u v m × OnAllThree n A r u v m × ((x : ℕ) → OnAllThree n A r u v x → x ≡ m)
  lca-one {r} {u} {v} hr hu hv =
      let c = lca_common G hr hu hv in
      let e = c.1 in
      let o = lca_any_order G hr hu hv in
      let S = G.tables.spans in (
        c.0,
        record {
          r_u_v = e;
          r_v_u = sym o.0 ∙ e;
          u_r_v = sym o.2 ∙ e;
          u_v_r = sym o.1 ∙ e;
          v_r_u = sym o.3 ∙ e;
          v_u_r = sym o.4 ∙ e;
        },
        record {
          from_r_to_u = (_, path_simple S hr hu, c.2.to_first);
          from_r_to_v = (_, path_simple S hr hv, c.2.to_second);
          from_u_to_v = (_, path_simple S hu hv, c.2.across);
        },
        λ x p. one_number (common-lca x p) e,
      )

  -- all that condition 3 asks of the tables
  pub routes : Routes n A t
  routes = record {
    found = λ hu hv. ranges_there G Vertices hu hv;
    read = λ s {l} e. vertices_simple G s l (ranges_of_lem G Vertices s.below.0 (simple_last s) e);
    cut = λ {u} {v} {w} p {l} {l₁} {l₂} e e₁ e₂.
        let s = p.1 in
        let hu = s.below.0 in
        let hv = simple_last s in
        let hw = on_vertex p in
        ranges_simple_cut G s Vertices w p.2 l l₁ l₂ (ranges_of_lem G Vertices hu hv e) (ranges_of_lem G Vertices hu hw e₁) (ranges_of_lem G Vertices hw hv e₂);
    turned = λ hu hv {l} {m} e f. ranges_turn G Vertices hu hv l m (ranges_of_lem G Vertices hu hv e) (ranges_of_lem G Vertices hv hu f);
    few = λ hu hv e. ranges_few Vertices hu hv e;
    listed_whole = λ kind hu hv p h. list_whole kind hu hv p h;
    recorded_whole = λ kind hu hv p h. record_whole kind hu hv p h;
    lca = λ hr hu hv. lca-one hr hu hv;
  }

-- range room is always enough
room_enough : RangeRoom
room_enough = record {
  floor_log2 = λ {n} h. (log2_low n h, log2_high n);
  enough = ranges_enough;
  answer = λ n some few. rw (le-leb 1 n some, le-leb n max_vertices few);
}

-- condition 3 of the tender
pub third_demand : ThirdDemand
third_demand = record { built = λ b. routes (build_given b); range_room = room_enough }
