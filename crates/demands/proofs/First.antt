-- Condition 1 holds of every result that the calls' contracts allow.
use Rattle.std.specs.Prelude.{Ok, Err}
use Prim.Native.Nat.{ℕ, ◌+◌, ◌*◌}
use native.Mathlib.Omega.{arith}
use native.Mathlib.Decide.{dec_le}
use mathlib.Core.Path.{◌≡◌, refl, sym, ap, ◌∙◌}
use mathlib.Core.Logic.{◌⊎◌, inl, inr, ⊎_elim, ◌≢◌}
use mathlib.Core.List.{List, [], ◌∷◌}
use lib.Dec.{leb}
use lib.ListN.{length, drop, get_or-append}
use lib.Seq.{drop_at}
use borrow.Author.Tests.{le-leb, lt-leb}
use Rattle.sums.specs.Sum.{at}
use Rattle.answers.specs.Codes.{done}
use Rattle.graph.specs.Lent.{vertices}
use Rattle.tables.specs.Tables.{Six}
use Rattle.validate.proofs.Meaning.{validates-one}
use Rattle.hld.proofs.Meaning.{builds-one}
use Rattle.answers.specs.Choice.{pick}
use Rattle.answers.specs.Answers.{answer_code, answer_values, interval_code, interval_values, listed_code, listed_values, Answer, Interval, Listed}
use Rattle.answers.specs.declared.answer.Refusal.TheVariants.{NoRoom}
use Rattle.answers.proofs.Choices.{pick_true, pick_false}
use Rattle.ranges.specs.Flat.{stride, flat}
use Rattle.ranges.specs.Calls.{Answered, refused, listed, ranges_of, room_answer, ListedAs}
use Rattle.ranges.proofs.Slots.{flat-length}
use Rattle.ranges.specs.declared.kinds.Kind.{Kind}
use Rattle.ranges.specs.declared.kinds.PathRange.{PathRange}
use Rattle.records.specs.Records.{RecordedAs, record_answer}
use Rattle.records.proofs.Reading.{records-one}
use Rattle.paths.specs.Lists.{front}
use Rattle.centroid.specs.Calls.{Two, Four, Lists}
use Rattle.centroidlaws.proofs.SameLists.{lists_even}
use Rattle.centroidlaws.proofs.Determined.{decomposes-one, lists_call-one, listing_passed}
use Rattle.demands.specs.Tests.{RangesAsked}
use Rattle.demands.specs.First.{Refusals, NothingWritten, PastCount, WorkLeft, Determined, FirstDemand}
use Rattle.demands.proofs.Tests.{vertex-count_code, root_code, depth_code, vertex_id_code, subtree-range_code, distance_code, lca_code, kth_ancestor_code, jump_code, subtree_size_code, read-two_code, range_room_code, answer_for, ranges_code}

-- a refused query answers no number
pub number_free : (a : Answer) → answer_code a ≢ done → answer_values a ≡ []
number_free (Ok x) h = absurd (h refl)
number_free (Err r) h = refl

-- nor an interval
pub interval_free : (a : Interval) → interval_code a ≢ done → interval_values a ≡ []
interval_free (Ok (a, e)) h = absurd (h refl)
interval_free (Err r) h = refl

-- nor a count
pub count_free : (a : Listed) → listed_code a ≢ done → listed_values a ≡ []
count_free (Ok k) h = absurd (h refl)
count_free (Err r) h = refl

-- a list with too little room is left alone, any other is written
written_or_not :
    {X : Type 0} (need room k : ℕ) {whole lent left : List X} {r : Listed}
    → r ≡ pick (leb need room) (Ok k) (Err NoRoom) → left ≡ pick (leb need room) whole lent
    → ((r ≡ Ok k) × (left ≡ whole)) ⊎ ((r ≡ Err NoRoom) × (left ≡ lent))
written_or_not need room k {whole} {lent} e f = elim (dec_le need room) [
  | yes h ↦ let t = le-leb need room h in inl (e ∙ pick_true (Ok k) (Err NoRoom) t, f ∙ pick_true whole lent t)
  | no h ↦ let t = lt-leb need room (omega arith) in inr (e ∙ pick_false (Ok k) (Err NoRoom) t, f ∙ pick_false whole lent t)
]

module _ {X : Type 0} {whole lent left : List X} {r : Listed} {k : ℕ} (w : ((r ≡ Ok k) × (left ≡ whole)) ⊎ ((r ≡ Err NoRoom) × (left ≡ lent))) where
  -- a list that is refused is unchanged
  kept : listed_code r ≢ done → left ≡ lent
  kept h = ⊎_elim (λ p. absurd (h (ap listed_code p.0))) (λ p. p.1) w

  -- a list that is counted was written
  counted : {j : ℕ} → r ≡ Ok j → (j ≡ k) × (left ≡ whole)
  counted e = ⊎_elim (λ p. (let q = p.0 in cc, p.1)) (λ p. let q = p.0 in let z : ◌≡◌ {A = ℕ} 0 1 = cc in absurd (omega arith)) w

-- the code of a call for ranges
room_code : (a : Answered) (room : ℕ) → room_answer a room ≡ answer_for (λ k. stride * k) room a
room_code (refused x) room = refl
room_code (listed l) room = refl

path_ranges_lem :
    (kind : Kind) (t : Six) (u v : ℕ) {lent left : List ℕ} {r : Listed} → ListedAs (ranges_of kind t u v) lent left r
    → RangesAsked t (u ∷ v ∷ []) (ranges_of kind t u v) (λ k. stride * k) (length lent) (listed_code r)
path_ranges_lem kind t u v {lent} p =
    rw (p.answer ∙ room_code (ranges_of kind t u v) (length lent)) (ranges_code (λ k. stride * k) (length lent) kind t u v)

-- and so with records
record_code : (a : Answered) (room : ℕ) → record_answer a room ≡ answer_for (λ k. k) room a
record_code (refused x) room = refl
record_code (listed l) room = refl

path_records :
    (kind : Kind) (t : Six) (u v : ℕ) {lent left : List PathRange} {r : Listed} → RecordedAs (ranges_of kind t u v) lent left r
    → RangesAsked t (u ∷ v ∷ []) (ranges_of kind t u v) (λ k. k) (length lent) (listed_code r)
path_records kind t u v {lent} p =
    rw (p.answer ∙ record_code (ranges_of kind t u v) (length lent)) (ranges_code (λ k. k) (length lent) kind t u v)

-- the codes are as 01 says
refusals : Refusals
refusals = record {
  validate_tree = λ p. p.code;
  try_hld = λ p. p.code;
  decomposition = λ p. p.code;
  component_lists = λ p. p.code;
  vertex_count = vertex-count_code;
  root = root_code;
  depth = depth_code;
  vertex_id = vertex_id_code;
  subtree_range = subtree-range_code;
  distance = distance_code;
  lca = lca_code;
  kth_ancestor = kth_ancestor_code;
  jump = jump_code;
  subtree_size = subtree_size_code;
  centroid_read = read-two_code;
  path_ranges = path_ranges_lem;
  path_records = path_records;
  range_room = range_room_code;
  no_number = number_free;
  no_interval = interval_free;
  no_count = count_free;
}

-- ranges that are refused leave the list alone
pub ranges_kept : (a : Answered) {lent left : List ℕ} {r : Listed} → ListedAs a lent left r → listed_code r ≢ done → left ≡ lent
ranges_kept (refused x) p h = p.list
ranges_kept (listed l) {lent} p h = kept (written_or_not (stride * length l) (length lent) (length l) p.answer p.list) h

-- and so with records
records_kept : (a : Answered) {lent left : List PathRange} {r : Listed} → RecordedAs a lent left r → listed_code r ≢ done → left ≡ lent
records_kept (refused x) p h = p.list
records_kept (listed l) {lent} p h = kept (written_or_not (length l) (length lent) (length l) p.answer p.list) h

-- past the ranges the list is as it was
ranges_past : (a : Answered) {lent left : List ℕ} {k : ℕ} → ListedAs a lent left (Ok k) → drop (stride * k) left ≡ drop (stride * k) lent
ranges_past (refused x) p = let e = p.answer in let z : ◌≡◌ {A = ℕ} 0 1 = cc in absurd (omega arith)
ranges_past (listed l) {lent} {left} {k} p =
    let c = counted (written_or_not (stride * length l) (length lent) (length l) p.answer p.list) refl in
    rw (c.0, c.1) (drop_at (flat l) (drop (stride * length l) lent) (stride * length l) (flat-length l))

-- and so with records
records_past : (a : Answered) {lent left : List PathRange} {k : ℕ} → RecordedAs a lent left (Ok k) → drop k left ≡ drop k lent
records_past (refused x) p = let e = p.answer in let z : ◌≡◌ {A = ℕ} 0 1 = cc in absurd (omega arith)
records_past (listed l) {lent} {left} {k} p =
    let c = counted (written_or_not (length l) (length lent) (length l) p.answer p.list) refl in
    rw (c.0, c.1) (drop_at l (drop (length l) lent) (length l) refl)

-- past a list at the front of a lent one
front_past : (l lent : List ℕ) {lent' : List ℕ} (k : ℕ) → lent' ≡ front l lent → length l ≡ k → drop k lent' ≡ drop k lent
front_past l lent k f e = rw (f, ← e) (drop_at l (drop (length l) lent) (length l) refl)

-- past the component lists
lists_past :
    {os ts vs ds bs ss w vs' ds' bs' ss' w' : List ℕ} → Lists os ts vs ds bs ss w vs' ds' bs' ss' w' done
    → let n = vertices os in
    let k = at ss' n in
    (drop k vs' ≡ drop k vs) × (drop k ds' ≡ drop k ds) × (drop k bs' ≡ drop k bs) × (drop (n + 1) ss' ≡ drop (n + 1) ss)
lists_past {os} {ts} {vs} {ds} {bs} {ss} {w} {ss' = ss'} p =
    let n = vertices os in
    let k = at ss' n in
    let g = listing_passed os ts vs ds bs ss (length w) p.code in
    let a = p.written refl in
    let L = a.4 in
    let even = lists_even g.listed.spans L in
    let last : k ≡ length a.0 =
    ap (λ (l : List ℕ). at l n) a.8 ∙ get_or-append a.3 (drop (length a.3) ss) 0 n (let s = L.starts_long in omega arith)
    ∙ L.all_starts n (omega arith) ∙ sym (ap length L.all_vertices) in (
      front_past a.0 vs k a.5 (sym last),
      front_past a.1 ds k a.6 (even.0 ∙ sym last),
      front_past a.2 bs k a.7 (even.1 ∙ sym last),
      front_past a.3 ss (n + 1) a.8 L.starts_long,
    )

-- a refusal writes no table and no list
nothing_written : NothingWritten
nothing_written = record {
  try_hld = λ p h. p.refused h;
  decomposition = λ p h. (ap (λ (t : Two). t.up) (p.refused h), ap (λ (t : Two). t.level) (p.refused h));
  component_lists = λ p h. let e = p.refused h in (
    ap (λ (m : Four). m.vertices) e,
    ap (λ (m : Four). m.distances) e,
    ap (λ (m : Four). m.branches) e,
    ap (λ (m : Four). m.starts) e,
  );
  ranges = λ {a} p h. ranges_kept a p h;
  range_records = λ {a} p h. records_kept a p h;
}

-- past its count a list is unchanged
past_count : PastCount
past_count = record { ranges = λ {a} p. ranges_past a p; range_records = λ {a} p. records_past a p; component_lists = lists_past }

-- work is left as 01 says
work_left : WorkLeft
work_left = record { validate_tree = λ p. p.work; try_hld = λ p. p.work; decomposition = λ p. p.work; component_lists = λ p. p.work }

-- every contract determines its call's results
determined : Determined
determined = record {
  validate_tree = λ {os} {ts} {root = root} p q. validates-one os ts root p q;
  try_hld = λ {os} {ts} {root = root} p q. builds-one os ts root p q;
  decomposition = λ {os} {ts} {up} {level} p q. decomposes-one os ts up level p q;
  component_lists = λ {os} {ts} {vs} {ds} {bs} {ss} p q. lists_call-one os ts vs ds bs ss p q;
  ranges = λ p q. (p.answer ∙ sym q.answer, p.list ∙ sym q.list);
  range_records = records-one;
}

-- condition 1 of the tender
pub first_demand : FirstDemand
first_demand = record {
  refusals = refusals;
  determined = determined;
  nothing_written = nothing_written;
  past_count = past_count;
  work_left = work_left;
}
