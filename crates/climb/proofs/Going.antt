-- The state of a climb under way, as the loop of `climb_to_lca` keeps it: it begins, goes on by one move, and ends.
use Rattle.std.specs.Prelude.{Ok, Err}
use Prim.Native.Nat.{ℕ, ◌+◌, ◌-◌, ◌*◌, ◌^◌, ◌≤◌, ◌<◌}
use native.Mathlib.Omega.{arith}
use native.Mathlib.Decide.{dec_le}
use mathlib.Core.Path.{◌≡◌, refl, sym, ap, ◌∙◌, subst}
use mathlib.Core.Bool.{Bool, true, false}
use borrow.Author.Tests.{le-leb, lt-leb}
use Rattle.answers.specs.Limits.{no_parent}
use Rattle.numbering.specs.Log.{log2}
use Rattle.numbering.proofs.Logs.{log2_word}
use Rattle.tables.specs.Tables.{Six}
use Rattle.answers.specs.Choice.{pick, both}
use Rattle.climb.specs.Asked.{size_of}
use Rattle.climb.specs.Sound.{depth_in, id_in, parent_in, Stood, On, Unsound, stand_on, place_of}
use Rattle.climb.specs.Climbing.{Climbed, climb_to, ancestor_of}
use Rattle.climb.specs.Inner.{climb_start, u_moved, v_moved, hangs?, leaves?, Seat, ClimbsFrom, ClimbedTo, Left}
use Rattle.climb.specs.declared.places.Place.{Place}
use Rattle.climb.specs.declared.places.Climb.{Climb}
use Rattle.answers.specs.declared.answer.Refusal.{Refusal}
use Rattle.answers.specs.declared.answer.Refusal.TheVariants.{BadTable}
use Rattle.answers.proofs.Choices.{pick_true, pick_false, pick_same}
use Rattle.climb.proofs.Reaching.{seat_stand, left_on, left_off, left_fewer, left_seat, left_lower, left_stand}
use Rattle.climb.proofs.Climbs.{leave_chain, climb_from, climb_met, climb_by, climb_by_u, climb_by_v, climb-from, climb_off_u, climb_off_v}

-- the chains that both sides may still leave
abbrev pub chains_left : ℕ → Climb → ℕ
chains_left chains c = 2 * chains - (c.u_count + c.v_count)

-- both ends are seats no deeper than u and v, and where both their heads hang, the climb from here is the climb from u and v
pub record Going (t : Six) (chains u v : ℕ) (c : Climb) : Type 0 where
  pub limit : chains ≡ log2 (size_of t)
  pub small : size_of t ≤ no_parent
  pub u_few : c.u_count ≤ chains
  pub v_few : c.v_count ≤ chains
  pub u_seat : Seat t c.u
  pub v_seat : Seat t c.v
  pub u_low : c.u.depth ≤ depth_in t u
  pub v_low : c.v.depth ≤ depth_in t v
  pub same :
      pick (both (hangs? (size_of t) t c.u) (hangs? (size_of t) t c.v)) (climb_from (size_of t) t c) (Err BadTable)
      ≡ climb_to (size_of t) t u v

-- A chain is left only where its head hangs: a is whether it does, b whether the other side's does, and s and g whether the next place was reached
-- and its head hangs.
guard_u : (a b s g : Bool) (f : Stood → Climbed) (l : Stood) (q : Place) → f Unsound ≡ Err BadTable
    → pick a l Unsound ≡ pick s (pick g (On q) Unsound) Unsound → pick (both a b) (f l) (Err BadTable) ≡ pick s (pick (both g b) (f (On q)) (Err BadTable)) (Err BadTable)
guard_u false b false g f l q off e = refl
guard_u false b true false f l q off e = refl
guard_u false b true true f l q off e = cc
guard_u true false s false f l q off e = sym (pick_same s (Err BadTable))
guard_u true false s true f l q off e = sym (pick_same s (Err BadTable))
guard_u true true false g f l q off e = ap f e ∙ off
guard_u true true true false f l q off e = ap f e ∙ off
guard_u true true true true f l q off e = ap f e

both_turn : (a b : Bool) → both a b ≡ both b a
both_turn true true = refl
both_turn true false = refl
both_turn false true = refl
both_turn false false = refl

guard_v : (a b s g : Bool) (f : Stood → Climbed) (l : Stood) (q : Place) → f Unsound ≡ Err BadTable
    → pick a l Unsound ≡ pick s (pick g (On q) Unsound) Unsound → pick (both b a) (f l) (Err BadTable) ≡ pick s (pick (both b g) (f (On q)) (Err BadTable)) (Err BadTable)
guard_v a b s g f l q off e = rw (both_turn b a, both_turn b g) (guard_u a b s g f l q off e)

module _ (t : Six) (chains u v : ℕ) where
  abbrev hung : Place → Bool
  hung p = hangs? (size_of t) t p

  module _ (c : Climb) (g : Going t chains u v c) where
    -- each side has left no more chains than it may, which is less than 64
    pub u_word : size_of t < 2 ^ 64 → c.u_count < 64
    u_word h = omega (arith, g.u_few, g.limit, log2_word (size_of t) h)

    pub v_word : size_of t < 2 ^ 64 → c.v_count < 64
    v_word h = omega (arith, g.v_few, g.limit, log2_word (size_of t) h)

    module _ (apart : c.u.head ≡ c.v.head → ⊥) where
      module _ (h : c.v.top ≤ c.u.top) where
        -- the climb by what is found above u
        u_same :
            pick (leaves? t c.u c.u_count) (pick (both (hung (place_of t c.u.up)) (hung c.v)) (climb_from (size_of t) t (u_moved c (place_of t c.u.up))) (Err BadTable)) (Err BadTable)
            ≡ climb_to (size_of t) t u v
        u_same =
            sym (guard_u (hung c.u) (hung c.v) (leaves? t c.u c.u_count) (hung (place_of t c.u.up))
            (climb_by (λ q. climb_from (size_of t) t (u_moved c q)))
            (leave_chain (size_of t) t c.u c.u_count) (place_of t c.u.up) refl
            (left_stand t c.u g.u_seat c.u_count g.small))
            ∙ (ap (λ (x : Climbed). pick (both (hung c.u) (hung c.v)) x (Err BadTable)) (sym (climb_by_u (size_of t) t c apart h))
            ∙ g.same)

        pub going_u_lost : {r : Refusal} → Left t c.u c.u_count (Err r) → Err r ≡ climb_to (size_of t) t u v
        going_u_lost l = let f = left_off t c.u g.u_seat c.u_count l in ap Err f.1 ∙ (rw f.0 at u_same)

        module _ {q : Place} (l : Left t c.u c.u_count (Ok q)) where
          pub u_fewer : c.u_count < chains
          u_fewer = omega (arith, left_fewer t c.u g.u_seat c.u_count l, g.limit)

          less_u : chains_left chains (u_moved c q) < chains_left chains c
          less_u = omega (arith, u_fewer, g.v_few)

          pub going_u_less : {d : Climb} → d ≡ u_moved c q → chains_left chains d < chains_left chains c
          going_u_less e = subst (λ (d : Climb). chains_left chains d < chains_left chains c) (sym e) less_u

          step_u : Going t chains u v (u_moved c q)
          step_u =
              let f = u_fewer in
              let w = left_lower t c.u g.u_seat c.u_count l in
              let o = left_on t c.u g.u_seat c.u_count l in
              record {
                limit = g.limit;
                small = g.small;
                u_few = omega arith;
                v_few = g.v_few;
                u_seat = left_seat t c.u g.u_seat c.u_count l;
                v_seat = g.v_seat;
                u_low = omega (arith, g.u_low);
                v_low = g.v_low;
                same =
                    subst (λ (x : Place). pick (both (hung x) (hung c.v)) (climb_from (size_of t) t (u_moved c x)) (Err BadTable) ≡ climb_to (size_of t) t u v) (sym o.1)
                    (rw o.0 at u_same);
              }

          pub going_u : {d : Climb} → d ≡ u_moved c q → Going t chains u v d
          going_u e = subst (Going t chains u v) (sym e) step_u

      module _ (h : c.u.top < c.v.top) where
        -- the climb by what is found above v
        v_same :
            pick (leaves? t c.v c.v_count) (pick (both (hung c.u) (hung (place_of t c.v.up))) (climb_from (size_of t) t (v_moved c (place_of t c.v.up))) (Err BadTable)) (Err BadTable)
            ≡ climb_to (size_of t) t u v
        v_same =
            sym (guard_v (hung c.v) (hung c.u) (leaves? t c.v c.v_count) (hung (place_of t c.v.up))
            (climb_by (λ q. climb_from (size_of t) t (v_moved c q)))
            (leave_chain (size_of t) t c.v c.v_count) (place_of t c.v.up) refl
            (left_stand t c.v g.v_seat c.v_count g.small))
            ∙ (ap (λ (x : Climbed). pick (both (hung c.u) (hung c.v)) x (Err BadTable)) (sym (climb_by_v (size_of t) t c apart h))
            ∙ g.same)

        pub going_v_lost : {r : Refusal} → Left t c.v c.v_count (Err r) → Err r ≡ climb_to (size_of t) t u v
        going_v_lost l = let f = left_off t c.v g.v_seat c.v_count l in ap Err f.1 ∙ (rw f.0 at v_same)

        module _ {q : Place} (l : Left t c.v c.v_count (Ok q)) where
          pub v_fewer : c.v_count < chains
          v_fewer = omega (arith, left_fewer t c.v g.v_seat c.v_count l, g.limit)

          less_v : chains_left chains (v_moved c q) < chains_left chains c
          less_v = omega (arith, v_fewer, g.u_few)

          pub going_v_less : {d : Climb} → d ≡ v_moved c q → chains_left chains d < chains_left chains c
          going_v_less e = subst (λ (d : Climb). chains_left chains d < chains_left chains c) (sym e) less_v

          step_v : Going t chains u v (v_moved c q)
          step_v =
              let f = v_fewer in
              let w = left_lower t c.v g.v_seat c.v_count l in
              let o = left_on t c.v g.v_seat c.v_count l in
              record {
                limit = g.limit;
                small = g.small;
                u_few = g.u_few;
                v_few = omega arith;
                u_seat = g.u_seat;
                v_seat = left_seat t c.v g.v_seat c.v_count l;
                u_low = g.u_low;
                v_low = omega (arith, g.v_low);
                same =
                    subst (λ (x : Place). pick (both (hung c.u) (hung x)) (climb_from (size_of t) t (v_moved c x)) (Err BadTable) ≡ climb_to (size_of t) t u v) (sym o.1)
                    (rw o.0 at v_same);
              }

          pub going_v : {d : Climb} → d ≡ v_moved c q → Going t chains u v d
          going_v e = subst (Going t chains u v) (sym e) step_v

-- A climb from two seats begins at their vertices.

module _ (t : Six) {p q : Place} (pre : ClimbsFrom t p q) where
  -- one stands on them where their heads hang
  p_on : hangs? (size_of t) t p ≡ true → stand_on (size_of t) t p.vertex ≡ On p
  p_on e = seat_stand t p pre.on_p ∙ pick_true (On p) Unsound e

  p_off : hangs? (size_of t) t p ≡ false → stand_on (size_of t) t p.vertex ≡ Unsound
  p_off e = seat_stand t p pre.on_p ∙ pick_false (On p) Unsound e

  q_on : hangs? (size_of t) t q ≡ true → stand_on (size_of t) t q.vertex ≡ On q
  q_on e = seat_stand t q pre.on_q ∙ pick_true (On q) Unsound e

  q_off : hangs? (size_of t) t q ≡ false → stand_on (size_of t) t q.vertex ≡ Unsound
  q_off e = seat_stand t q pre.on_q ∙ pick_false (On q) Unsound e

  begun : (a b : Bool) → hangs? (size_of t) t p ≡ a → hangs? (size_of t) t q ≡ b
      → pick (both a b) (climb_from (size_of t) t (climb_start p q)) (Err BadTable) ≡ climb_to (size_of t) t p.vertex q.vertex
  begun false b on_p on_q = climb_off_u (size_of t) t p.vertex q.vertex (p_off on_p)
  begun true false on_p on_q = climb_off_v (size_of t) t p.vertex q.vertex (q_off on_q)
  begun true true on_p on_q = sym (climb-from (size_of t) t p.vertex q.vertex (p_on on_p) (q_on on_q))

  start : Going t (log2 (size_of t)) p.vertex q.vertex (climb_start p q)
  start =
      let du : p.depth ≡ depth_in t p.vertex = ap (λ (x : Place). x.depth) pre.on_p.place in
      let dv : q.depth ≡ depth_in t q.vertex = ap (λ (x : Place). x.depth) pre.on_q.place in
      record {
        limit = refl;
        small = pre.small;
        u_few = omega arith;
        v_few = omega arith;
        u_seat = pre.on_p;
        v_seat = pre.on_q;
        u_low = omega arith;
        v_low = omega arith;
        same = begun (hangs? (size_of t) t p) (hangs? (size_of t) t q) refl refl;
      }

  module _ {c : Climb} (new : c ≡ climb_start p q) where
    pub going_begins : Going t (log2 (size_of t)) c.u.vertex c.v.vertex c
    going_begins = subst (λ (d : Climb). Going t (log2 (size_of t)) d.u.vertex d.v.vertex d) (sym new) start

    -- and ends as the climb from those two
    pub climbed_begun : {r : Climbed} → ClimbedTo t c.u.vertex c.v.vertex r → ClimbedTo t p.vertex q.vertex r
    climbed_begun {r} e = subst (λ (d : Climb). ClimbedTo t d.u.vertex d.v.vertex r) new e

-- the ancestor is no deeper than either end
ancestor_low : (c : Climb) → ((ancestor_of c).depth ≤ c.u.depth) × ((ancestor_of c).depth ≤ c.v.depth)
ancestor_low c = elim (dec_le c.u.depth c.v.depth) [
  | yes h ↦ rw (le-leb c.u.depth c.v.depth h) (omega arith)
  | no h ↦ rw (lt-leb c.u.depth c.v.depth (omega arith)) (omega arith)
]

-- How the climb ends.

module _ (t : Six) where
  -- whether the head h hangs
  abbrev head_hung : ℕ → Bool
  head_hung h = hangs? (size_of t) t (record { vertex = 0; depth = 0; id = 0; head = h; top = depth_in t h; first = id_in t h; up = parent_in t h })

  seat_hung : (p : Place) → Seat t p → hangs? (size_of t) t p ≡ head_hung p.head
  seat_hung p seat = subst (λ (q : Place). hangs? (size_of t) t q ≡ head_hung q.head) (sym seat.place) refl

  -- two seats under one head hang alike
  one_head : (p q : Place) → Seat t p → Seat t q → p.head ≡ q.head → hangs? (size_of t) t q ≡ hangs? (size_of t) t p
  one_head p q on_p on_q e = seat_hung q on_q ∙ (ap head_hung (sym e) ∙ sym (seat_hung p on_p))

  both_same : (a : Bool) → both a a ≡ a
  both_same true = refl
  both_same false = refl

  module _ (u v : ℕ) where
    pub climbed_lost : {r : Refusal} → Err r ≡ climb_to (size_of t) t u v → ClimbedTo t u v (Err r)
    climbed_lost l = record { climb = l; u_low = λ c e. absurd (cc); v_low = λ c e. absurd (cc) }

    pub climbed_met : {chains : ℕ} {c : Climb} → Going t chains u v c → c.u.head ≡ c.v.head → ClimbedTo t u v (Ok c)
    climbed_met {chains} {c} g e =
        let a = ancestor_low c in
        record {
          climb =
              ap (λ (b : Bool). pick b (Ok c) (Err BadTable))
              (sym (ap (both (hangs? (size_of t) t c.u)) (one_head c.u c.v g.u_seat g.v_seat e) ∙ both_same (hangs? (size_of t) t c.u)))
              ∙ (ap (λ (x : Climbed). pick (both (hangs? (size_of t) t c.u) (hangs? (size_of t) t c.v)) x (Err BadTable))
              (sym (climb_met (size_of t) t c e))
              ∙ g.same);
          u_low = λ d f. let m : c ≡ d = cc in subst (λ (x : Climb). (ancestor_of x).depth ≤ depth_in t u) m (omega (arith, g.u_low));
          v_low = λ d f. let m : c ≡ d = cc in subst (λ (x : Climb). (ancestor_of x).depth ≤ depth_in t v) m (omega (arith, g.v_low));
        }
