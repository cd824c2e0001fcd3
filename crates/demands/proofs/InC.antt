-- What is said of the answers in Rattle holds in C: one step from what a call answers to what it hands over.
use Rattle.std.specs.Prelude.{Ok, Err}
use Prim.Native.Nat.{ℕ, ◌*◌, ◌≤◌}
use mathlib.Core.Path.{◌≡◌, refl, ap, ◌∙◌}
use mathlib.Core.Logic.{◌≢◌}
use mathlib.Core.List.{List, ◌++◌}
use lib.ListN.{length, drop}
use borrow.Author.Tests.{le-leb}
use Rattle.answers.specs.Codes.{done}
use Rattle.answers.specs.Answers.{answer_code, answer_values, interval_code, interval_values, listed_code, listed_values, Answer, Interval, Listed}
use Rattle.answers.specs.declared.answer.Refusal.TheVariants.{NoRoom, TooFar}
use Rattle.answers.proofs.Choices.{pick_true}
use Rattle.tables.specs.Tables.{Six}
use Rattle.ranges.specs.Flat.{stride, flat}
use Rattle.ranges.specs.Calls.{Answered, listed, room_answer, room_list}
use Rattle.ranges.specs.declared.kinds.PathRange.{PathRange}
use Rattle.relaypath.specs.Handed.{first_or, rest_of}
use Rattle.relaypath.specs.Listing.{HandedList}
use Rattle.demands.specs.Answers.{Caller, in_rattle, Answers}
use Rattle.demands.specs.InC.{in_c, Untouched, DemandsInC}
use Rattle.demands.proofs.First.{number_free, interval_free, count_free, ranges_kept}
use Rattle.demands.proofs.Second.{second_demand}
use Rattle.demands.proofs.Third.{third_demand}

-- a caller sees an answer as it is
record Sees (caller : Caller) : Type 0 where
  number : (a : Answer) (x : ℕ) → a ≡ Ok x → caller.number a x
  too_far : (a : Answer) → a ≡ Err TooFar → caller.too_far a
  interval : (i : Interval) (x y : ℕ) → i ≡ Ok (x, y) → caller.interval i x y
  ranges : (a : Answered) (l : List PathRange) → a ≡ listed l → caller.ranges a l

-- so what is said of the answers holds as this caller sees them
seen : {caller : Caller} → Sees caller → {n root : ℕ} {A : ℕ → List ℕ} {t : Six} → Answers in_rattle n A root t → Answers caller n A root t
seen S p = record {
  vertex_count = S.number _ _ p.vertex_count;
  root_answer = S.number _ _ p.root_answer;
  depth = λ s. S.number _ _ (p.depth s);
  vertex_id = λ h. S.number _ _ (p.vertex_id h);
  subtree_range = λ h. S.interval _ _ _ (p.subtree_range h);
  distance = λ s. S.number _ _ (p.distance s);
  kth_ancestor = λ k s h. S.number _ _ (p.kth_ancestor k s h);
  jump = λ k s h. S.number _ _ (p.jump k s h);
  no_ancestor = λ k s h. S.too_far _ (p.no_ancestor k s h);
  no_jump = λ k s h. S.too_far _ (p.no_jump k s h);
  lca = λ m a b c. S.number _ _ (p.lca m a b c);
  subtree_size = λ hr hv test f. S.number _ _ (p.subtree_size hr hv test f);
  vertex_ranges = λ s. let f = p.vertex_ranges s in (f.0, S.ranges _ _ f.1, f.2);
  edge_ranges = λ s. let f = p.edge_ranges s in (f.0, S.ranges _ _ f.1, f.2);
  both_ranges = λ s. let f = p.both_ranges s in (f.0, S.ranges _ _ f.1, f.2);
}

-- the ranges are handed over where the list has room
handed_ranges :
    (a : Answered) (l : List PathRange) → a ≡ listed l → (lent left : List ℕ) (before after code : ℕ) → HandedList a lent left before after code
    → stride * length l ≤ length lent → (code ≡ done) × (after ≡ length l) × (left ≡ flat l ++ drop (stride * length l) lent)
handed_ranges a l e lent left before after code p h =
    let room = le-leb (stride * length l) (length lent) h in
    let r : room_answer a (length lent) ≡ Ok (length l) =
    ap (λ (x : Answered). room_answer x (length lent)) e ∙ pick_true (Ok (length l)) (Err NoRoom) room in (
      p.count.code_given ∙ ap listed_code r,
      p.count.value_given ∙ ap (λ (x : Listed). first_or before (listed_values x)) r,
      p.list ∙ ap (λ (x : Answered). room_list x lent) e ∙ pick_true (flat l ++ drop (stride * length l) lent) lent room,
    )

sees_c : Sees in_c
sees_c = record {
  number = λ a x e before after code p. (p.code_given ∙ ap answer_code e, p.value_given ∙ ap (λ (b : Answer). first_or before (answer_values b)) e);
  too_far = λ a e before after code p. (p.code_given ∙ ap answer_code e, p.value_given ∙ ap (λ (b : Answer). first_or before (answer_values b)) e);
  interval = λ i x y e start end start' end' code p. (
    p.code_given ∙ ap interval_code e,
    p.start_given ∙ ap (λ (j : Interval). first_or start (interval_values j)) e,
    p.end_given ∙ ap (λ (j : Interval). first_or end (rest_of (interval_values j))) e,
  );
  ranges = handed_ranges;
}

-- a refusal leaves what was lent for the answer as it was
untouched : Untouched
untouched = record {
  number = λ a {before} p h. p.value_given ∙ ap (first_or before) (number_free a (λ z. h (p.code_given ∙ z)));
  ends = λ i {start} {end} p h.
      let e = interval_free i (λ z. h (p.code_given ∙ z)) in
      (p.start_given ∙ ap (first_or start) e, p.end_given ∙ ap (λ (l : List ℕ). first_or end (rest_of l)) e);
  list = λ a {lent} {left} {before} p h.
      let refused : listed_code (room_answer a (length lent)) ≢ done = λ z. h (p.count.code_given ∙ z) in (
        ranges_kept a (record { answer = refl; list = p.list }) refused,
        p.count.value_given ∙ ap (first_or before) (count_free (room_answer a (length lent)) refused),
      );
}

-- what a caller in C may rely on
pub demands_in_c : DemandsInC
demands_in_c = record {
  answers = λ b. seen sees_c (second_demand.answers b);
  reads = λ d.
      let r = second_demand.reads d in
      record { parent_read = λ h. sees_c.number _ _ (r.parent_read h); level_read = λ h. sees_c.number _ _ (r.level_read h) };
  room = λ n some few. sees_c.number _ _ (third_demand.range_room.answer n some few);
  untouched = untouched;
}
