-- The state of the second climb, as the loop of `write_path` keeps it: writing what is left into its slots gives the ranges of the path. Since its
-- ranges are known, no side is lost, and every head on the way hangs.
use Rattle.std.specs.Prelude.{Option, Ok, Err}
use Prim.Native.Nat.{ℕ, ◌+◌, ◌-◌, ◌*◌, ◌≤◌, ◌<◌}
use native.Mathlib.Omega.{arith}
use mathlib.Core.Path.{◌≡◌, refl, sym, ap, ◌∙◌, subst}
use mathlib.Core.Bool.{Bool, true, false}
use mathlib.Core.List.{List, [], ◌∷◌, ◌++◌}
use lib.ListN.{length, drop, length-append}
use Rattle.answers.specs.Limits.{max_vertices}
use Rattle.numbering.specs.Log.{log2}
use Rattle.tables.specs.Tables.{Six}
use Rattle.climb.specs.Asked.{size_of}
use Rattle.climb.specs.Sound.{On, Unsound}
use Rattle.climb.specs.Inner.{climb_start, u_moved, v_moved, ClimbsFrom, Left, Seat}
use Rattle.climb.specs.declared.places.Climb.{Climb}
use Rattle.answers.specs.declared.answer.Refusal.{Refusal}
use Rattle.climb.specs.declared.places.Place.{Place}
use Rattle.climb.proofs.Soundness.{Seated}
use Rattle.climb.proofs.Reaching.{seat_facts}
use Rattle.climb.proofs.Climbs.{leave_chain}
use Rattle.climb.proofs.Going.{Going, going_begins, going_u, going_v, u_fewer, v_fewer}
use Rattle.ranges.specs.declared.kinds.PathRange.{PathRange}
use Rattle.ranges.specs.declared.kinds.Piece.{Piece}
use Rattle.ranges.specs.declared.kinds.Kind.{Kind}
use Rattle.ranges.specs.Ranges.{Found, lost, found, u_piece, v_piece, chain_range, path_ranges}
use Rattle.ranges.specs.Flat.{stride, flat}
use Rattle.ranges.specs.Inner.{Chain, Ends, last_chain, last_list, written, Small, Slot}
use Rattle.rangelists.specs.Inner.{LastSlot, Known}
use Rattle.rangelists.proofs.Hung.{hangs_in, seat_unhung, seat_hung, left_number, left_lost, left_unhung, left_hung}
use Rattle.ranges.proofs.Numbered.{chain_small, last_chain_small}
use Rattle.ranges.proofs.Slots.{written-length, written-front, written_back, written_all}
use Rattle.ranges.proofs.Looks.{u_range, v_range, in_front, behind, ranging, range_met, range_u, range_u_lost, range_v, range_v_lost, range-from, range_off_u, range_off_v}

-- Ranges that were found.

found_lost : {l : List PathRange} → lost ≡ found l → ⊥
found_lost e = absurd (cc)

front_found : (r : PathRange) (f : Found) {l : List PathRange} → in_front r f ≡ found l → (m : List PathRange) × (f ≡ found m) × (l ≡ r ∷ m)
front_found r lost e = absurd (found_lost e)
front_found r (found m) {l} e = let z : l ≡ r ∷ m = cc in (m, refl, z)

behind_found : (r : PathRange) (f : Found) {l : List PathRange} → behind r f ≡ found l → (m : List PathRange) × (f ≡ found m) × (l ≡ m ++ (r ∷ []))
behind_found r lost e = absurd (found_lost e)
behind_found r (found m) {l} e = let z : l ≡ m ++ (r ∷ []) = cc in (m, refl, z)

-- a range of a chain goes into a slot
chain_slot : (kind : Kind) (p : Piece) (w : List ℕ) (slot : ℕ) {x : PathRange}
    → x ≡ chain_range kind p → Chain p → stride * slot + stride ≤ length w → Slot w slot x
chain_slot kind p w slot e h room = record { room = room; small = subst Small (sym e) (chain_small kind p h.numbers) }

-- a test that cannot fail
always : (b : Bool) → (b ≡ false → ⊥) → b ≡ true
always true never = refl
always false never = absurd (never refl)

-- Both ends of a path whose ranges are known were reached, under heads that hang.
module _ (kind : Kind) (t : Six) (count : ℕ) (p q : Place) (known : Known kind (size_of t) t p.vertex q.vertex count) where
  hangs_u : Seat t p → hangs_in t p ≡ true
  hangs_u seat =
      always (hangs_in t p) (λ e. found_lost (sym (range_off_u kind (size_of t) t p.vertex q.vertex (seat_unhung t seat e)) ∙ known.same))

  hangs_v : Seat t q → hangs_in t q ≡ true
  hangs_v seat =
      always (hangs_in t q) (λ e. found_lost (sym (range_off_v kind (size_of t) t p.vertex q.vertex (seat_unhung t seat e)) ∙ known.same))

-- The tables, the path and the list as it was lent.
module _ (kind : Kind) (t : Six) (u v count : ℕ) (lent : List ℕ) where
  -- the heads of both ends hang, and `rest` is still to be written, between what both sides have written
  pub record Writing (c : Climb) (w : List ℕ) : Type 0 where
    pub going : Going t (log2 (size_of t)) u v c
    pub u_hung : hangs_in t c.u ≡ true
    pub v_hung : hangs_in t c.v ≡ true
    pub rest : List PathRange
    pub left : ranging kind (size_of t) t c ≡ found rest
    pub fill : c.u_count + length rest + c.v_count ≡ count
    pub long : length w ≡ length lent
    pub whole : (l : List PathRange) → path_ranges kind (size_of t) t u v ≡ found l → written w c.u_count rest ≡ written lent 0 l

  module _ (c : Climb) (w : List ℕ) (g : Writing c w) where
    u_facts : Seated (size_of t) c.u
    u_facts = seat_facts t c.u g.going.u_seat

    v_facts : Seated (size_of t) c.v
    v_facts = seat_facts t c.v g.going.v_seat

    module _ (apart : c.u.head ≡ c.v.head → ⊥) where
      module _ (h : c.v.top ≤ c.u.top) where
        u_unsound : leave_chain (size_of t) t c.u c.u_count ≡ Unsound → ⊥
        u_unsound e = found_lost (sym (range_u_lost kind (size_of t) t c apart h e) ∙ g.left)

        pub u_never : {r : Refusal} → Left t c.u c.u_count (Err r) → ⊥
        u_never l = u_unsound (left_lost t c.u c.u_count g.going.u_seat g.going.small g.u_hung l)

        module _ {r : Place} (l : Left t c.u c.u_count (Ok r)) where
          u_hangs : hangs_in t r ≡ true
          u_hangs =
              always (hangs_in t r)
              (λ e. u_unsound (left_unhung t c.u c.u_count g.going.u_seat g.going.small g.u_hung l e))

          u-left : leave_chain (size_of t) t c.u c.u_count ≡ On r
          u-left = left_hung t c.u c.u_count g.going.u_seat g.going.small g.u_hung l u_hangs

          u-rest : (m : List PathRange) × (ranging kind (size_of t) t (u_moved c r) ≡ found m) × (g.rest ≡ u_range kind c.u ∷ m)
          u-rest =
              front_found (u_range kind c.u) (ranging kind (size_of t) t (u_moved c r))
              (sym (range_u kind (size_of t) t c apart h u-left) ∙ g.left)

          u_few : c.u_count < (log2 (size_of t))
          u_few = u_fewer t (log2 (size_of t)) u v c g.going apart h l

          u_room : c.u_count + 1 + c.v_count ≤ count
          u_room = let e = ap length u-rest.2 in omega (arith, g.fill)

          pub u_chain : size_of t ≤ max_vertices → Chain (u_piece c.u)
          u_chain small =
              record {
                above = left_number t c.u c.u_count g.going.u_seat l;
                numbers = record { some = omega (arith, u_facts.first_low); small = omega (arith, u_facts.id_below) };
              }

          pub u_slot : size_of t ≤ max_vertices → stride * count ≤ length lent → {x : PathRange} → x ≡ u_range kind c.u → Slot w c.u_count x
          u_slot small room e =
              chain_slot kind (u_piece c.u) w c.u_count e (u_chain small) (omega (arith, u_room, g.long))

          u_next : Writing (u_moved c r) (written w c.u_count (u_range kind c.u ∷ []))
          u_next =
              let few = u_few in
              let e = ap length u-rest.2 in
              record {
                going = going_u t (log2 (size_of t)) u v c g.going apart h l refl;
                u_hung = u_hangs;
                v_hung = g.v_hung;
                rest = u-rest.0;
                left = u-rest.1;
                fill = omega (arith, g.fill);
                long = written-length w c.u_count (u_range kind c.u ∷ []) ∙ g.long;
                whole = λ m f.
                    sym (written-front w c.u_count (u_range kind c.u) u-rest.0)
                    ∙ (ap (written w c.u_count) (sym u-rest.2) ∙ g.whole m f);
              }

          pub writing_u : {d : Climb} {x : PathRange} {w' : List ℕ}
              → d ≡ u_moved c r → x ≡ u_range kind c.u → w' ≡ written w c.u_count (x ∷ []) → Writing d w'
          writing_u {d} {x} {w'} e f i =
              let j : w' ≡ written w c.u_count (u_range kind c.u ∷ []) = i ∙ ap (λ (y : PathRange). written w c.u_count (y ∷ [])) f in
              subst (λ (z : Climb). Writing z w') (sym e) (subst (Writing (u_moved c r)) (sym j) u_next)

      module _ (h : c.u.top < c.v.top) where
        v_unsound : leave_chain (size_of t) t c.v c.v_count ≡ Unsound → ⊥
        v_unsound e = found_lost (sym (range_v_lost kind (size_of t) t c apart h e) ∙ g.left)

        pub v_never : {r : Refusal} → Left t c.v c.v_count (Err r) → ⊥
        v_never l = v_unsound (left_lost t c.v c.v_count g.going.v_seat g.going.small g.v_hung l)

        module _ {r : Place} (l : Left t c.v c.v_count (Ok r)) where
          v_hangs : hangs_in t r ≡ true
          v_hangs =
              always (hangs_in t r)
              (λ e. v_unsound (left_unhung t c.v c.v_count g.going.v_seat g.going.small g.v_hung l e))

          v-left : leave_chain (size_of t) t c.v c.v_count ≡ On r
          v-left = left_hung t c.v c.v_count g.going.v_seat g.going.small g.v_hung l v_hangs

          v-rest : (m : List PathRange) × (ranging kind (size_of t) t (v_moved c r) ≡ found m) × (g.rest ≡ m ++ (v_range kind c.v ∷ []))
          v-rest =
              behind_found (v_range kind c.v) (ranging kind (size_of t) t (v_moved c r))
              (sym (range_v kind (size_of t) t c apart h v-left) ∙ g.left)

          v_few : c.v_count < (log2 (size_of t))
          v_few = v_fewer t (log2 (size_of t)) u v c g.going apart h l

          v-length : length g.rest ≡ length v-rest.0 + 1
          v-length = let e = ap length v-rest.2 in omega (arith, length-append v-rest.0 (v_range kind c.v ∷ []))

          pub v_room : c.u_count + 1 + c.v_count ≤ count
          v_room = let e = v-length in omega (arith, g.fill)

          pub v_chain : size_of t ≤ max_vertices → Chain (v_piece c.v)
          v_chain small =
              record {
                above = left_number t c.v c.v_count g.going.v_seat l;
                numbers = record { some = omega (arith, v_facts.first_low); small = omega (arith, v_facts.id_below) };
              }

          pub v_slot : size_of t ≤ max_vertices → stride * count ≤ length lent → {x : PathRange} → x ≡ v_range kind c.v
              → Slot w (count - 1 - c.v_count) x
          v_slot small room e =
              chain_slot kind (v_piece c.v) w (count - 1 - c.v_count) e (v_chain small) (omega (arith, v_room, g.long))

          v_next : Writing (v_moved c r) (written w (count - 1 - c.v_count) (v_range kind c.v ∷ []))
          v_next =
              let few = v_few in
              let e = v-length in
              let s : count - 1 - c.v_count ≡ c.u_count + length v-rest.0 = omega (arith, g.fill) in
              record {
                going = going_v t (log2 (size_of t)) u v c g.going apart h l refl;
                u_hung = g.u_hung;
                v_hung = v_hangs;
                rest = v-rest.0;
                left = v-rest.1;
                fill = omega (arith, g.fill);
                long = written-length w (count - 1 - c.v_count) (v_range kind c.v ∷ []) ∙ g.long;
                whole = λ m f.
                    ap (λ (i : ℕ). written (written w i (v_range kind c.v ∷ [])) c.u_count v-rest.0) s
                    ∙ (sym (written_back w c.u_count v-rest.0 (v_range kind c.v))
                    ∙ (ap (written w c.u_count) (sym v-rest.2) ∙ g.whole m f));
              }

          pub writing_v : {d : Climb} {x : PathRange} {w' : List ℕ}
              → d ≡ v_moved c r → x ≡ v_range kind c.v → w' ≡ written w (count - 1 - c.v_count) (x ∷ []) → Writing d w'
          writing_v {d} {x} {w'} e f i =
              let j : w' ≡ written w (count - 1 - c.v_count) (v_range kind c.v ∷ []) =
              i ∙ ap (λ (y : PathRange). written w (count - 1 - c.v_count) (y ∷ [])) f in
              subst (λ (z : Climb). Writing z w') (sym e) (subst (Writing (v_moved c r)) (sym j) v_next)

    pub writing-ends : size_of t ≤ max_vertices → Ends c
    writing-ends small = record { u = omega (arith, u_facts.id_below); v = omega (arith, v_facts.id_below) }

    -- the last chain is all that is left
    module _ (met : c.u.head ≡ c.v.head) (last : Option PathRange) (e : last_list last ≡ last_chain kind c) where
      last_rest : last_list last ≡ g.rest
      last_rest =
          let f : found (last_chain kind c) ≡ found g.rest = sym (range_met kind (size_of t) t c met) ∙ g.left in
          cc

      pub last_slot : size_of t ≤ max_vertices → stride * count ≤ length lent → LastSlot w c.u_count last
      last_slot small room =
          record {
            each = λ r f.
                let i : last_list last ≡ r ∷ [] = ap last_list f in
                let j : length g.rest ≡ 1 = ap length (sym last_rest ∙ i) in
                record {
                  room = omega (arith, g.fill, g.long);
                  small = last_chain_small kind c (writing-ends small) (sym e ∙ i);
                };
          }

      pub writing-done : Known kind (size_of t) t u v count → stride * count ≤ length lent → {w' : List ℕ}
          → w' ≡ written w c.u_count (last_list last)
          → (l : List PathRange) → path_ranges kind (size_of t) t u v ≡ found l → w' ≡ flat l ++ drop (stride * length l) lent
      writing-done known room i l f =
          let z : known.ranges ≡ l = cc in
          let n : length l ≡ count = ap length (sym z) ∙ known.counted in
          i ∙ (ap (written w c.u_count) last_rest ∙ (g.whole l f ∙ written_all lent l (omega arith)))

-- It starts at two places that were reached.
module _ (kind : Kind) (t : Six) (count : ℕ) (lent : List ℕ) {p q : Place} (climbs : ClimbsFrom t p q) (known : Known kind (size_of t) t p.vertex q.vertex count) where
  begin : Writing kind t p.vertex q.vertex count lent (climb_start p q) lent
  begin =
      let u_hangs = hangs_u kind t count p q known climbs.on_p in
      let v_hangs = hangs_v kind t count p q known climbs.on_q in
      record {
        going = going_begins t climbs refl;
        u_hung = u_hangs;
        v_hung = v_hangs;
        rest = known.ranges;
        left = sym (range-from kind (size_of t) t p.vertex q.vertex (seat_hung t climbs.on_p u_hangs) (seat_hung t climbs.on_q v_hangs)) ∙ known.same;
        fill = omega (arith, known.counted);
        long = refl;
        whole = λ l f. let z : known.ranges ≡ l = cc in ap (written lent 0) z;
      }

  pub writing_start : {c : Climb} → c ≡ climb_start p q → Writing kind t p.vertex q.vertex count lent c lent
  writing_start e = subst (λ (c : Climb). Writing kind t p.vertex q.vertex count lent c lent) (sym e) begin
