-- Laws of a vertex that was reached: what the tests made there say of standing on it, and of leaving its chain.
use Rattle.std.specs.Prelude.{Result, Ok, Err}
use Prim.Native.Nat.{ℕ, ◌+◌, ◌-◌, ◌≤◌, ◌<◌}
use native.Mathlib.Omega.{arith}
use native.Mathlib.Decide.{dec_le}
use mathlib.Core.Path.{◌≡◌, refl, sym, ap, ◌∙◌, subst}
use mathlib.Core.Bool.{Bool, true, false}
use lib.Dec.{eqb, leb, ltb}
use borrow.Author.Tests.{lt-ltb, le-ltb, le-leb, lt-leb, eq-eqb, ne_eqb, ltb-true}
use Rattle.sums.proofs.Sums.{equal_or_not}
use Rattle.answers.specs.Limits.{no_parent}
use Rattle.numbering.specs.Log.{log2}
use Rattle.tables.specs.Tables.{Six}
use Rattle.answers.specs.Choice.{pick, both}
use Rattle.answers.specs.declared.answer.Refusal.{Refusal}
use Rattle.answers.specs.declared.answer.Refusal.TheVariants.{BadTable}
use Rattle.climb.specs.Asked.{size_of}
use Rattle.climb.specs.Sound.{depth_in, head_in, id_in, parent_in, sound?, Stood, On, Unsound, stand_on, place_of}
use Rattle.climb.specs.Inner.{chained?, seated?, hangs_from?, hangs?, above?, leaves?, reach, ReachedOn, StoodOn, ReachedAbove, Left, StandAsks, ReadsHead, Rests, Seat, LeaveAsks}
use Rattle.climb.specs.declared.places.Place.{Place}
use Rattle.answers.proofs.Choices.{pick_true, pick_false, pick_same, pick-both, both_true}
use Rattle.climb.proofs.Climbs.{leave_chain, leave_parentless, leave_worn, leave_stands}
use Rattle.climb.proofs.Soundness.{Seated, stand_split, sound_split, seated_place, hangs-from, hangs_up}

-- The tests on a chain, where the vertex is no higher than its head and both its numbers are below n: one sum tells.

sum_level : (d i top first : ℕ) → top ≤ d → i + top ≡ d + first → both (leb first i) (eqb (i - first) (d - top)) ≡ true
sum_level d i top first h e = rw (le-leb first i (omega arith), eq-eqb (i - first) (d - top) (omega arith))

sum_uneven : (d i top first : ℕ) → top ≤ d → (i + top ≡ d + first → ⊥) → both (leb first i) (eqb (i - first) (d - top)) ≡ false
sum_uneven d i top first h ne = elim (dec_le first i) [
  | yes g ↦ rw (le-leb first i g, ne_eqb (i - first) (d - top) (λ e. ne (omega arith)))
  | no g ↦ rw (lt-leb first i (omega arith))
]

chained_level : (n d i top first : ℕ) → top ≤ d → d < n → i < n → i + top ≡ d + first → chained? n d i top first ≡ true
chained_level n d i top first h a b e = rw (le-leb top d h, lt-ltb d n a, lt-ltb i n b) (sum_level d i top first h e)

chained_uneven : (n d i top first : ℕ) → top ≤ d → d < n → i < n → (i + top ≡ d + first → ⊥) → chained? n d i top first ≡ false
chained_uneven n d i top first h a b ne = rw (le-leb top d h, lt-ltb d n a, lt-ltb i n b) (sum_uneven d i top first h ne)

-- a test that fails makes all fail
off : (a : Bool) {b : Bool} → b ≡ false → both a b ≡ false
off true e = e
off false e = refl

-- What is answered where a test passes, and what that tells of the test.

on_ok : (b : Bool) (q : Place) {p : Place} → Ok p ≡ pick b (Ok q) (Err BadTable) → (b ≡ true) × (p ≡ q)
on_ok true q e = (refl, cc)
on_ok false q e = cc

on_err : (b : Bool) (q : Place) {r : Refusal} → Err r ≡ pick b (Ok q) (Err BadTable) → (b ≡ false) × (r ≡ BadTable)
on_err true q e = cc
on_err false q e = (refl, cc)

-- What the tests of a vertex say, one by one.

module _ (t : Six) (x : ℕ) where
  abbrev seat? : Bool
  seat? = seated? (size_of t) t x

  refused : {b : Bool} → b ≡ false → Err BadTable ≡ reach b t x
  refused e = sym (pick_false (Ok (place_of t x)) (Err BadTable) e)

  seat_deep : size_of t ≤ depth_in t x → seat? ≡ false
  seat_deep h =
      off (ltb (head_in t x) (size_of t)) (off (leb (depth_in t (head_in t x)) (depth_in t x)) (rw (le-ltb (depth_in t x) (size_of t) h)))

  seat_far : size_of t ≤ id_in t x → seat? ≡ false
  seat_far h =
      off (ltb (head_in t x) (size_of t))
      (off (leb (depth_in t (head_in t x)) (depth_in t x))
      (off (ltb (depth_in t x) (size_of t)) (off (leb (id_in t (head_in t x)) (id_in t x)) (rw (le-ltb (id_in t x) (size_of t) h)))))

  seat_high : depth_in t x < depth_in t (head_in t x) → seat? ≡ false
  seat_high h = off (ltb (head_in t x) (size_of t)) (rw (lt-leb (depth_in t (head_in t x)) (depth_in t x) h))

-- The ways out of `reach`.
module _ {t : Six} {x : ℕ} (pre : StandAsks t x) where
  pub reach_deep : size_of t ≤ depth_in t x → ReachedOn t x (Err BadTable)
  reach_deep h = record { is = refused t x (seat_deep t x h) }

  pub reach_far : size_of t ≤ id_in t x → ReachedOn t x (Err BadTable)
  reach_far h = record { is = refused t x (seat_far t x h) }

-- Those of `reach_at`.
module _ {t : Six} {x d i : ℕ} (pre : ReadsHead t x d i) where
  pub reach-beyond : size_of t ≤ head_in t x → ReachedOn t x (Err BadTable)
  reach-beyond h = record { is = refused t x (rw (le-ltb (head_in t x) (size_of t) h)) }

  pub reach_high : d < depth_in t (head_in t x) → ReachedOn t x (Err BadTable)
  reach_high h = record { is = refused t x (seat_high t x (omega (arith, pre.depth))) }

  module _ (a : head_in t x < size_of t) (h : depth_in t (head_in t x) ≤ d) where
    pub reach_uneven : (i + depth_in t (head_in t x) ≡ d + id_in t (head_in t x) → ⊥) → ReachedOn t x (Err BadTable)
    reach_uneven ne =
        let o : d ≡ depth_in t x = pre.depth in
        let p : i ≡ id_in t x = pre.id in
        record {
          is =
              refused t x
              (rw (lt-ltb (head_in t x) (size_of t) a)
              (chained_uneven (size_of t) (depth_in t x) (id_in t x) (depth_in t (head_in t x)) (id_in t (head_in t x))
              (omega arith) (omega (arith, pre.depth_below)) (omega (arith, pre.id_below)) (λ e. ne (omega arith))));
        }

    -- what was read of x
    read_place : record { vertex = x; depth = d; id = i; head = head_in t x; top = depth_in t (head_in t x); first = id_in t (head_in t x); up = parent_in t (head_in t x) } ≡ place_of t x
    read_place =
        ap (λ (k : ℕ). record { vertex = x; depth = k; id = i; head = head_in t x; top = depth_in t (head_in t x); first = id_in t (head_in t x); up = parent_in t (head_in t x) }) pre.depth
        ∙ ap (λ (k : ℕ). record { vertex = x; depth = depth_in t x; id = k; head = head_in t x; top = depth_in t (head_in t x); first = id_in t (head_in t x); up = parent_in t (head_in t x) }) pre.id

    pub reach_here : i + depth_in t (head_in t x) ≡ d + id_in t (head_in t x)
        → ReachedOn t x (Ok (record { vertex = x; depth = d; id = i; head = head_in t x; top = depth_in t (head_in t x); first = id_in t (head_in t x); up = parent_in t (head_in t x) }))
    reach_here e =
        let o : d ≡ depth_in t x = pre.depth in
        let p : i ≡ id_in t x = pre.id in
        record {
          is =
              ap Ok read_place
              ∙ sym (pick_true (Ok (place_of t x)) (Err BadTable)
              (rw (lt-ltb (head_in t x) (size_of t) a)
              (chained_level (size_of t) (depth_in t x) (id_in t x) (depth_in t (head_in t x)) (id_in t (head_in t x))
              (omega arith) (omega (arith, pre.depth_below)) (omega (arith, pre.id_below)) (omega arith))));
        }

-- A vertex that was reached, or not.

reached_told : {t : Six} {x : ℕ} {p : Place} → ReachedOn t x (Ok p) → (seated? (size_of t) t x ≡ true) × (p ≡ place_of t x)
reached_told {t} {x} e = on_ok (seated? (size_of t) t x) (place_of t x) e.is

unreached_told : {t : Six} {x : ℕ} {r : Refusal} → ReachedOn t x (Err r) → (seated? (size_of t) t x ≡ false) × (r ≡ BadTable)
unreached_told {t} {x} e = on_err (seated? (size_of t) t x) (place_of t x) e.is

module _ {t : Six} {x : ℕ} {r : Refusal} (e : ReachedOn t x (Err r)) where
  pub reached_bad : r ≡ BadTable
  reached_bad = (unreached_told e).1

  pub reached_off : stand_on (size_of t) t x ≡ Unsound
  reached_off = stand_split (size_of t) t x ∙ rw (unreached_told e).0

  -- so `stand` refuses too
  pub stand_off : StoodOn t x (Err r)
  stand_off = record { is = ap Err reached_bad ∙ refused t x (sound_split (size_of t) t x ∙ rw (unreached_told e).0) }

module _ {t : Six} {x : ℕ} {p : Place} (e : ReachedOn t x (Ok p)) where
  pub reached_vertex : p.vertex ≡ x
  reached_vertex = ap (λ (q : Place). q.vertex) (reached_told e).1

  pub reached_depth : p.depth ≡ depth_in t x
  reached_depth = ap (λ (q : Place). q.depth) (reached_told e).1

  pub reached_seat : Seat t p
  reached_seat = subst (Seat t) (sym (reached_told e).1) (record { place = refl; seated = (reached_told e).0 })

  -- and `stand` looks whether the head hangs
  sound_here : sound? (size_of t) t x ≡ hangs? (size_of t) t p
  sound_here = sound_split (size_of t) t x ∙ (rw (reached_told e).0 (ap (hangs? (size_of t) t) (sym (reached_told e).1)))

  pub stand_unhung : hangs? (size_of t) t p ≡ false → StoodOn t x (Err BadTable)
  stand_unhung f = record { is = refused t x (sound_here ∙ f) }

  pub stand_here : hangs? (size_of t) t p ≡ true → StoodOn t x (Ok p)
  stand_here f = record { is = ap Ok (reached_told e).1 ∙ sym (pick_true (Ok (place_of t x)) (Err BadTable) (sound_here ∙ f)) }

-- Where `stand` stands, or not.

unstood_told : {t : Six} {x : ℕ} {r : Refusal} → StoodOn t x (Err r) → (sound? (size_of t) t x ≡ false) × (r ≡ BadTable)
unstood_told {t} {x} e = on_err (sound? (size_of t) t x) (place_of t x) e.is

stood_told : {t : Six} {x : ℕ} {p : Place} → StoodOn t x (Ok p) → (sound? (size_of t) t x ≡ true) × (p ≡ place_of t x)
stood_told {t} {x} e = on_ok (sound? (size_of t) t x) (place_of t x) e.is

module _ {t : Six} {x : ℕ} {r : Refusal} (e : StoodOn t x (Err r)) where
  pub stood_bad : r ≡ BadTable
  stood_bad = (unstood_told e).1

  pub stood_off : stand_on (size_of t) t x ≡ Unsound
  stood_off = rw (unstood_told e).0

pub stood_on : {t : Six} {x : ℕ} {p : Place} → StoodOn t x (Ok p) → stand_on (size_of t) t x ≡ On p
stood_on e = rw (stood_told e).0 (ap On (sym (stood_told e).1))

-- The parent of a head was reached, or not.

pub above_on : {t : Six} {p q : Place} → ReachedAbove t p (Ok q) → (above? t p ≡ true) × (q ≡ place_of t p.up)
above_on {t} {p} e = on_ok (above? t p) (place_of t p.up) e.is

pub above_off : {t : Six} {p : Place} {r : Refusal} → ReachedAbove t p (Err r) → (above? t p ≡ false) × (r ≡ BadTable)
above_off {t} {p} e = on_err (above? t p) (place_of t p.up) e.is

-- A place that was reached.

module _ (t : Six) where
  -- where one stands there is a seat, under a head that hangs
  pub stood_seat : (x : ℕ) {p : Place} → stand_on (size_of t) t x ≡ On p → Seat t p × (hangs? (size_of t) t p ≡ true)
  stood_seat x {p} e =
      let b = told (sound? (size_of t) t x) (place_of t x) e in
      let c = both_true (seated? (size_of t) t x) _ (sym (sound_split (size_of t) t x) ∙ b.0) in
      subst (λ (q : Place). Seat t q × (hangs? (size_of t) t q ≡ true)) b.1 (record { place = refl; seated = c.0 }, c.1)
    where
      told : (b : Bool) (q : Place) {p : Place} → pick b (On q) Unsound ≡ On p → (b ≡ true) × (q ≡ p)
      told true q e = (refl, cc)
      told false q e = cc

  module _ (p : Place) (seat : Seat t p) where
    pub seat_facts : Seated (size_of t) p
    seat_facts = subst (Seated (size_of t)) (sym seat.place) (seated_place (size_of t) t p.vertex seat.seated)

    -- on a seat one stands where its head hangs
    pub seat_stand : stand_on (size_of t) t p.vertex ≡ pick (hangs? (size_of t) t p) (On p) Unsound
    seat_stand =
        stand_split (size_of t) t p.vertex
        ∙ (rw seat.seated (ap (λ (q : Place). pick (hangs? (size_of t) t q) (On q) Unsound) (sym seat.place)))

    -- The seat above, from which the head hangs.

    above_holds : above? t p ≡ true → ((p.up < size_of t) × ((depth_in t p.up + 1 ≡ p.top) × (id_in t p.up < p.first))) × (seated? (size_of t) t p.up ≡ true)
    above_holds e =
        let b = both_true (hangs_from? (size_of t) t p.up p.top p.first) _ e in
        (hangs-from (size_of t) t p.up p.top p.first b.0, b.1)

    module _ {q : Place} (e : ReachedAbove t p (Ok q)) where
      above_place : (above? t p ≡ true) × (q ≡ place_of t p.up)
      above_place = above_on e

      pub above_seat : Seat t q
      above_seat = subst (Seat t) (sym above_place.1) (record { place = refl; seated = (above_holds above_place.0).1 })

      pub above_lower : q.depth < p.depth
      above_lower =
          let h = above_holds above_place.0 in
          let d : q.depth ≡ depth_in t p.up = ap (λ (q : Place). q.depth) above_place.1 in
          omega (arith, h.0.1.0, seat_facts.top_low)

    -- where the head hangs, one stands on its parent by what is found there
    pub above_stand : (p.up ≡ no_parent → ⊥)
        → pick (hangs? (size_of t) t p) (stand_on (size_of t) t p.up) Unsound
        ≡ pick (above? t p) (pick (hangs? (size_of t) t (place_of t p.up)) (On (place_of t p.up)) Unsound) Unsound
    above_stand ne =
        rw (hangs_up (size_of t) t p ne, stand_split (size_of t) t p.up)
        (pick-both (hangs_from? (size_of t) t p.up p.top p.first) (seated? (size_of t) t p.up) _ Unsound)

    -- Leaving the chain.

    module _ (left : ℕ) where
      pub left_on : {q : Place} → Left t p left (Ok q) → (leaves? t p left ≡ true) × (q ≡ place_of t p.up)
      left_on e = on_ok (leaves? t p left) (place_of t p.up) e.is

      pub left_off : {r : Refusal} → Left t p left (Err r) → (leaves? t p left ≡ false) × (r ≡ BadTable)
      left_off e = on_err (leaves? t p left) (place_of t p.up) e.is

      module _ {q : Place} (e : Left t p left (Ok q)) where
        pub left_fewer : left < log2 (size_of t)
        left_fewer = ltb-true left (log2 (size_of t)) (both_true (ltb left (log2 (size_of t))) _ (left_on e).0).0

        left-above : ReachedAbove t p (Ok q)
        left-above = record { is = rw (lt-ltb left (log2 (size_of t)) left_fewer) at e.is }

        pub left_seat : Seat t q
        left_seat = above_seat left-above

        pub left_lower : q.depth < p.depth
        left_lower = above_lower left-above

      -- where the head hangs, the chain is left by what is found above
      pub left_stand : size_of t ≤ no_parent
          → pick (hangs? (size_of t) t p) (leave_chain (size_of t) t p left) Unsound
          ≡ pick (leaves? t p left) (pick (hangs? (size_of t) t (place_of t p.up)) (On (place_of t p.up)) Unsound) Unsound
      left_stand small =
          equal_or_not p.up no_parent
          (λ e. stuck (leave_parentless (size_of t) t p left e) (off (ltb left (log2 (size_of t))) (rw (le-ltb p.up (size_of t) (omega arith)))))
          (λ ne. elim (dec_le (log2 (size_of t)) left) [
            | yes h ↦ stuck (leave_worn (size_of t) t p left h) (rw (le-ltb left (log2 (size_of t)) h))
            | no h ↦
                let few : left < log2 (size_of t) = omega arith in
                ap (λ (x : Stood). pick (hangs? (size_of t) t p) x Unsound) (sym (leave_stands (size_of t) t p left ne few))
                ∙ (above_stand ne ∙ rw (lt-ltb left (log2 (size_of t)) few))
          ])
        where
          stuck : Unsound ≡ leave_chain (size_of t) t p left → leaves? t p left ≡ false
              → pick (hangs? (size_of t) t p) (leave_chain (size_of t) t p left) Unsound
              ≡ pick (leaves? t p left) (pick (hangs? (size_of t) t (place_of t p.up)) (On (place_of t p.up)) Unsound) Unsound
          stuck e never =
              ap (λ (x : Stood). pick (hangs? (size_of t) t p) x Unsound) (sym e)
              ∙ (pick_same (hangs? (size_of t) t p) Unsound ∙ rw never)

-- The ways out of `reach_above`.
module _ {t : Six} {p : Place} (pre : Rests t p) where
  pub above-beyond : size_of t ≤ p.up → ReachedAbove t p (Err BadTable)
  above-beyond h = record { is = refused t p.up (rw (le-ltb p.up (size_of t) h)) }

  module _ (b : p.up < size_of t) where
    pub above_uneven : (depth_in t p.up + 1 ≡ p.top → ⊥) → ReachedAbove t p (Err BadTable)
    above_uneven ne = record { is = refused t p.up (rw (lt-ltb p.up (size_of t) b, ne_eqb (depth_in t p.up + 1) p.top ne)) }

    module _ (e : depth_in t p.up + 1 ≡ p.top) where
      pub above_late : p.first ≤ id_in t p.up → ReachedAbove t p (Err BadTable)
      above_late h =
          record { is = refused t p.up (rw (lt-ltb p.up (size_of t) b, eq-eqb (depth_in t p.up + 1) p.top e, le-ltb (id_in t p.up) p.first h)) }

      module _ (h : id_in t p.up < p.first) where
        pub above_reads : ReadsHead t p.up (depth_in t p.up) (id_in t p.up)
        above_reads =
            let f = seat_facts t p pre.seat in
            record {
              even = pre.even;
              vertex = b;
              depth = refl;
              id = refl;
              depth_below = omega (arith, f.top_low, f.depth_below);
              id_below = omega (arith, f.first_low, f.id_below);
            }

        pub above_here : {r : Result Place Refusal} → ReachedOn t p.up r → ReachedAbove t p r
        above_here f =
            record { is = f.is ∙ rw (lt-ltb p.up (size_of t) b, eq-eqb (depth_in t p.up + 1) p.top e, lt-ltb (id_in t p.up) p.first h) }

-- Those of `leave_chain`.
module _ {t : Six} {p : Place} {left : ℕ} (pre : LeaveAsks t p left) where
  pub leave_late : log2 (size_of t) ≤ left → Left t p left (Err BadTable)
  leave_late h = record { is = refused t p.up (rw (le-ltb left (log2 (size_of t)) h)) }

  pub leave_here : left < log2 (size_of t) → {r : Result Place Refusal} → ReachedAbove t p r → Left t p left r
  leave_here h f = record { is = f.is ∙ rw (lt-ltb left (log2 (size_of t)) h) }
