-- Laws of the ancestor lookup: one chain of it in each case, and that a vertex it finds is below n.
use Rattle.std.specs.Prelude.{Ok, Err}
use Prim.Native.Nat.{ℕ, zero, suc, ◌+◌, ◌-◌, ◌/◌, ◌≤◌, ◌<◌}
use native.Mathlib.Omega.{arith}
use mathlib.Core.Path.{◌≡◌, refl, sym, ap, ◌∙◌, subst}
use mathlib.Core.Bool.{Bool, true, false}
use lib.Dec.{eqb, leb, ltb}
use borrow.Author.Tests.{le-leb, lt-leb, eq-eqb, ne_eqb, ltb-true}
use Rattle.sums.specs.Sum.{at}
use Rattle.answers.specs.Limits.{no_parent}
use Rattle.numbering.specs.Log.{log2}
use Rattle.numbering.proofs.Logs.{log2_small, log2_half}
use Rattle.tables.specs.Tables.{Six}
use Rattle.answers.specs.Choice.{pick, both}
use Rattle.climb.specs.Sound.{depth_in, id_in, place_of, stand_on, Stood, On, Unsound}
use Rattle.queries.specs.Queries.{entry_at, ancestor_from, ancestor_in}
use Rattle.climb.specs.Asked.{size_of}
use Rattle.climb.specs.Inner.{hangs?, above?, Seat, ReachedOn, ReachedAbove}
use Rattle.queries.specs.Inner.{rise_from}
use Rattle.climb.specs.declared.places.Place.{Place}
use Rattle.answers.specs.declared.answer.Refusal.{Refusal}
use Rattle.answers.specs.declared.answer.Refusal.TheVariants.{BadTable, TooFar}
use Rattle.answers.specs.Answers.{Answer}
use Rattle.answers.proofs.Choices.{pick_true, pick_false, pick_same, both_true}
use Rattle.climb.proofs.Reaching.{reached_vertex, reached_seat, reached_off, reached_bad, seat_stand, above_stand, above_on, above_off}

-- the steps from a place to the head of its chain
abbrev steps : Place → ℕ
steps p = p.depth - p.top

-- what is found by where one stands
abbrev rise_by : (Place → Answer) → Stood → Answer
rise_by f x = elim x [ On q ↦ f q | Unsound ↦ Err BadTable ]

-- A head must hang: a is whether p's does, and b and g whether the place q above was reached and its head hangs.
guard : (a b g : Bool) (f : Place → Answer) (x : Stood) (q : Place) → pick a x Unsound ≡ pick b (pick g (On q) Unsound) Unsound
    → pick a (rise_by f x) (Err BadTable) ≡ pick b (pick g (f q) (Err BadTable)) (Err BadTable)
guard false false g f x q e = refl
guard false true false f x q e = refl
guard false true true f x q e = cc
guard true false g f x q e = ap (rise_by f) e
guard true true false f x q e = ap (rise_by f) e
guard true true true f x q e = ap (rise_by f) e

-- One chain of the definition.

module _ (n : ℕ) (t : Six) (p : Place) (k : ℕ) where
  from_here : (chains : ℕ) → k ≤ steps p → entry_at n t (p.id - k) (p.depth - k) ≡ ancestor_from chains n t p k
  unfolding ancestor_from
  from_here zero h = rw (le-leb k (steps p) h, ancestor_from)
  from_here (suc m) h = rw (le-leb k (steps p) h, ancestor_from)

  module _ (h : steps p < k) where
    from_too_far : (chains : ℕ) → p.up ≡ no_parent → Err TooFar ≡ ancestor_from chains n t p k
    unfolding ancestor_from
    from_too_far zero e = rw (lt-leb k (steps p) h, eq-eqb p.up no_parent e, ancestor_from)
    from_too_far (suc m) e = rw (lt-leb k (steps p) h, eq-eqb p.up no_parent e, ancestor_from)

    module _ (ne : p.up ≡ no_parent → ⊥) where
      from_worn : (chains : ℕ) → chains ≡ 0 → Err BadTable ≡ ancestor_from chains n t p k
      unfolding ancestor_from
      from_worn zero e = rw (lt-leb k (steps p) h, ne_eqb p.up no_parent ne, ancestor_from)
      from_worn (suc m) e = absurd (omega arith)

      -- by where one stands above
      from_by : (chains : ℕ) → 1 ≤ chains → rise_by (λ q. ancestor_from (chains - 1) n t q (k - (steps p + 1))) (stand_on n t p.up) ≡ ancestor_from chains n t p k
      unfolding ancestor_from
      from_by zero some = absurd (omega arith)
      from_by (suc m) some =
          let f : suc m - 1 ≡ m = omega arith in
          rw (f, lt-leb k (steps p) h, ne_eqb p.up no_parent ne, ancestor_from)

-- The same of a place that was reached, whose head must hang.

module _ (t : Six) (p : Place) (k : ℕ) where
  abbrev n : ℕ
  n = size_of t

  abbrev hung : Place → Bool
  hung q = hangs? n t q

  pub rise_unhung : (chains : ℕ) → hung p ≡ false → Err BadTable ≡ rise_from chains n t p k
  rise_unhung chains e = sym (pick_false (ancestor_from chains n t p k) (Err BadTable) e)

  pub rise_here : (chains : ℕ) → hung p ≡ true → k ≤ steps p → entry_at n t (p.id - k) (p.depth - k) ≡ rise_from chains n t p k
  rise_here chains e h = from_here n t p k chains h ∙ sym (pick_true (ancestor_from chains n t p k) (Err BadTable) e)

  module _ (h : steps p < k) where
    -- at a head without parent, which hangs exactly where it has depth 0
    module _ (e : p.up ≡ no_parent) where
      pub rise_too_far : (chains : ℕ) → p.top ≡ 0 → Err TooFar ≡ rise_from chains n t p k
      rise_too_far chains z =
          let on : hung p ≡ true = rw (eq-eqb p.up no_parent e, eq-eqb p.top 0 z) in
          from_too_far n t p k h chains e ∙ sym (pick_true (ancestor_from chains n t p k) (Err BadTable) on)

      pub rise_high : (chains : ℕ) → (p.top ≡ 0 → ⊥) → Err BadTable ≡ rise_from chains n t p k
      rise_high chains z = rise_unhung chains (rw (eq-eqb p.up no_parent e, ne_eqb p.top 0 z))

    module _ (ne : p.up ≡ no_parent → ⊥) where
      -- with a room below 2 no chain may be left
      pub rise_worn : (room : ℕ) → room < 2 → Err BadTable ≡ rise_from (log2 room) n t p k
      rise_worn room e =
          sym (pick_same (hung p) (Err BadTable))
          ∙ ap (λ (a : Answer). pick (hung p) a (Err BadTable)) (from_worn n t p k h ne (log2 room) (log2_small room (omega arith)))

      -- by what was reached above; half of the room has one chain less
      module _ (seat : Seat t p) (room : ℕ) (some : 2 ≤ room) where
        fewer : log2 (room / 2) ≡ log2 room - 1
        fewer = omega (arith, log2_half room some)

        rise_by_lem : pick (above? t p) (rise_from (log2 (room / 2)) n t (place_of t p.up) (k - (steps p + 1))) (Err BadTable) ≡ rise_from (log2 room) n t p k
        rise_by_lem =
            ap (λ (c : ℕ). pick (above? t p) (rise_from c n t (place_of t p.up) (k - (steps p + 1))) (Err BadTable)) fewer
            ∙ (sym (guard (hung p) (above? t p) (hung (place_of t p.up)) (λ q. ancestor_from (log2 room - 1) n t q (k - (steps p + 1))) (stand_on n t p.up) (place_of t p.up)
            (above_stand t p seat ne))
            ∙ ap (λ (a : Answer). pick (hung p) a (Err BadTable)) (from_by n t p k h ne (log2 room) (omega (arith, log2_half room some))))

        pub rise_unsound : {r : Refusal} → ReachedAbove t p (Err r) → Err r ≡ rise_from (log2 room) n t p k
        rise_unsound f = let e = above_off f in ap Err e.1 ∙ (rw e.0 at rise_by_lem)

        pub rise_on : {q : Place} → ReachedAbove t p (Ok q) → rise_from (log2 (room / 2)) n t q (k - (steps p + 1)) ≡ rise_from (log2 room) n t p k
        rise_on f =
            let e = above_on f in
            ap (λ (q : Place). rise_from (log2 (room / 2)) n t q (k - (steps p + 1))) e.1 ∙ (rw e.0 at rise_by_lem)

-- The lookup from a vertex.

-- from the vertex of a seat
pub rise-from : (t : Six) (p : Place) (k : ℕ) → Seat t p
    → rise_from (log2 (size_of t)) (size_of t) t p k ≡ ancestor_in (size_of t) t p.vertex k
rise-from t p k seat = rw (ancestor_in, seat_stand t p seat) (chosen (hangs? (size_of t) t p))
  where
    chosen : (b : Bool)
        → pick b (ancestor_from (log2 (size_of t)) (size_of t) t p k) (Err BadTable)
        ≡ rise_by (λ q. ancestor_from (log2 (size_of t)) (size_of t) t q k) (pick b (On p) Unsound)
    chosen true = refl
    chosen false = refl

-- or from a vertex that was reached, or not
pub rise_off : {t : Six} {v : ℕ} (k : ℕ) {r : Refusal} → ReachedOn t v (Err r) → Err r ≡ ancestor_in (size_of t) t v k
rise_off k f = ap Err (reached_bad f) ∙ rw (ancestor_in, reached_off f)

pub rise_reached : {t : Six} {v : ℕ} (k : ℕ) {p : Place} → ReachedOn t v (Ok p)
    → rise_from (log2 (size_of t)) (size_of t) t p k ≡ ancestor_in (size_of t) t v k
rise_reached {t} {v} k {p} reached =
    rise-from t p k (reached_seat reached) ∙ ap (λ (x : ℕ). ancestor_in (size_of t) t x k) (reached_vertex reached)

-- A vertex that is found is below n.

abbrev Below : ℕ → Answer → Type 0
Below n a = (y : ℕ) → a ≡ Ok y → y < n

below_refused : (n : ℕ) (r : Refusal) → Below n (Err r)
below_refused n r y e = absurd (cc)

below-pick : (n : ℕ) (b : Bool) {a c : Answer} → Below n a → Below n c → Below n (pick b a c)
below-pick n true p q = p
below-pick n false p q = q

below_entry : (n : ℕ) (t : Six) (i d : ℕ) → Below n (entry_at n t i d)
below_entry n t i d = tested _ refl
  where
    tested : (b : Bool) → both (ltb (at t.order i) n) (both (eqb (id_in t (at t.order i)) i) (eqb (depth_in t (at t.order i)) d)) ≡ b → Below n (pick b (Ok (at t.order i)) (Err BadTable))
    tested true e y f = let z : at t.order i ≡ y = cc in subst (λ (x : ℕ). x < n) z (ltb-true (at t.order i) n (both_true (ltb (at t.order i) n) _ e).0)
    tested false e y f = below_refused n BadTable y f

below_stood : (n : ℕ) (s : Stood) {f : Place → Answer} → ((q : Place) → Below n (f q)) → Below n (rise_by f s)
below_stood n (On q) h = h q
below_stood n Unsound h = below_refused n BadTable

from-below : (chains n : ℕ) (t : Six) (p : Place) (k : ℕ) → Below n (ancestor_from chains n t p k)
unfolding ancestor_from
from-below zero n t p k =
    below-pick n (leb k (steps p)) (below_entry n t (p.id - k) (p.depth - k))
    (below-pick n (eqb p.up no_parent) (below_refused n TooFar) (below_refused n BadTable))
from-below (suc m) n t p k =
    below-pick n (leb k (steps p)) (below_entry n t (p.id - k) (p.depth - k))
    (below-pick n (eqb p.up no_parent) (below_refused n TooFar) (below_stood n (stand_on n t p.up) (λ q. from-below m n t q (k - (steps p + 1)))))

pub found_below : (chains n : ℕ) (t : Six) (p : Place) (k : ℕ) → Below n (rise_from chains n t p k)
found_below chains n t p k = below-pick n (hangs? n t p) (from-below chains n t p k) (below_refused n BadTable)
