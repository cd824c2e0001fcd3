-- Heads that hang: under such a head one stands on what was reached, and leaves its chain for what was reached above it.
use Rattle.std.specs.Prelude.{Ok, Err}
use Prim.Native.Nat.{ℕ, ◌≤◌}
use native.Mathlib.Omega.{arith}
use mathlib.Core.Path.{◌≡◌, sym, ap, ◌∙◌}
use mathlib.Core.Bool.{Bool, true, false}
use lib.Dec.{ltb}
use Rattle.answers.specs.Limits.{no_parent}
use Rattle.numbering.specs.Log.{log2}
use Rattle.tables.specs.Tables.{Six}
use Rattle.answers.specs.Choice.{pick}
use Rattle.answers.specs.declared.answer.Refusal.{Refusal}
use Rattle.climb.specs.Asked.{size_of}
use Rattle.climb.specs.Sound.{On, Unsound, stand_on, place_of}
use Rattle.climb.specs.Inner.{hangs_from?, hangs?, leaves?, Seat, Left}
use Rattle.climb.specs.declared.places.Place.{Place}
use Rattle.answers.proofs.Choices.{pick_true, pick_false, both_true}
use Rattle.climb.proofs.Soundness.{hangs-from}
use Rattle.climb.proofs.Climbs.{leave_chain}
use Rattle.climb.proofs.Reaching.{seat_stand, left_on, left_off, left_stand}

-- whether the head of a place hangs
abbrev pub hangs_in : Six → Place → Bool
hangs_in t p = hangs? (size_of t) t p

-- a seat
module _ (t : Six) {p : Place} (seat : Seat t p) where
  pub seat_unhung : hangs_in t p ≡ false → stand_on (size_of t) t p.vertex ≡ Unsound
  seat_unhung e = seat_stand t p seat ∙ pick_false (On p) Unsound e

  pub seat_hung : hangs_in t p ≡ true → stand_on (size_of t) t p.vertex ≡ On p
  seat_hung e = seat_stand t p seat ∙ pick_true (On p) Unsound e

-- the chain of a seat is left
module _ (t : Six) (p : Place) (left : ℕ) (seat : Seat t p) where
  -- its head hangs from a parent, whose number is smaller: so its own number is above 0
  pub left_number : {q : Place} → Left t p left (Ok q) → 1 ≤ p.first
  left_number l =
      let a = both_true (ltb left (log2 (size_of t))) _ (left_on t p seat left l).0 in
      let b = both_true (hangs_from? (size_of t) t p.up p.top p.first) _ a.1 in
      omega (arith, (hangs-from (size_of t) t p.up p.top p.first b.0).1.1)

  module _ (small : size_of t ≤ no_parent) (hung : hangs_in t p ≡ true) where
    left_by : leave_chain (size_of t) t p left ≡ pick (leaves? t p left) (pick (hangs_in t (place_of t p.up)) (On (place_of t p.up)) Unsound) Unsound
    left_by = sym (pick_true (leave_chain (size_of t) t p left) Unsound hung) ∙ left_stand t p seat left small

    pub left_lost : {r : Refusal} → Left t p left (Err r) → leave_chain (size_of t) t p left ≡ Unsound
    left_lost l =
        left_by ∙ pick_false (pick (hangs_in t (place_of t p.up)) (On (place_of t p.up)) Unsound) Unsound (left_off t p seat left l).0

    module _ {q : Place} (l : Left t p left (Ok q)) where
      left_next : leave_chain (size_of t) t p left ≡ pick (hangs_in t q) (On q) Unsound
      left_next =
          let o = left_on t p seat left l in
          left_by
          ∙ (pick_true (pick (hangs_in t (place_of t p.up)) (On (place_of t p.up)) Unsound) Unsound o.0
          ∙ ap (λ (x : Place). pick (hangs_in t x) (On x) Unsound) (sym o.1))

      pub left_unhung : hangs_in t q ≡ false → leave_chain (size_of t) t p left ≡ Unsound
      left_unhung e = left_next ∙ pick_false (On q) Unsound e

      pub left_hung : hangs_in t q ≡ true → leave_chain (size_of t) t p left ≡ On q
      left_hung e = left_next ∙ pick_true (On q) Unsound e
