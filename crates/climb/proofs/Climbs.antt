-- Laws of the climb: one look of it in each case, and the climb from a state of it.
use Rattle.std.specs.Prelude.{Ok, Err}
use Prim.Native.Nat.{ℕ, zero, suc, ◌+◌, ◌-◌, ◌≤◌, ◌<◌}
use native.Mathlib.Omega.{arith}
use native.Mathlib.Decide.{dec_lt}
use mathlib.Core.Path.{◌≡◌, refl, sym, ap, ◌∙◌}
use mathlib.Core.List.{[]}
use lib.Dec.{ltb}
use lib.ListN.{length}
use borrow.Author.Tests.{lt-ltb, le-ltb, le-leb, lt-leb, eq-eqb, ne_eqb}
use Rattle.answers.specs.Limits.{no_parent}
use Rattle.numbering.specs.Log.{log2}
use Rattle.tables.specs.Tables.{Six}
use Rattle.answers.specs.Choice.{pick}
use Rattle.answers.proofs.Choices.{pick_same}
use Rattle.climb.specs.Sound.{Stood, On, Unsound, stand_on}
use Rattle.climb.specs.Climbing.{Ascent, strays, meets, u_leaves, v_leaves, above, look, ascending, ascent, end_of, Climbed, climb_to}
use Rattle.climb.specs.Inner.{climb_start, u_moved, v_moved}
use Rattle.climb.specs.declared.places.Place.{Place}
use Rattle.climb.specs.declared.places.Climb.{Climb}
use Rattle.answers.specs.declared.answer.Refusal.{Refusal}
use Rattle.answers.specs.declared.answer.Refusal.TheVariants.{BadTable}

-- Leaving a chain.

-- where a side stands that has left so many chains and leaves one more
abbrev pub leave_chain : ℕ → Six → Place → ℕ → Stood
leave_chain n t p left = pick (ltb left (log2 n)) (above n t p) Unsound

pub leave_parentless : (n : ℕ) (t : Six) (p : Place) (left : ℕ) → p.up ≡ no_parent → Unsound ≡ leave_chain n t p left
leave_parentless n t p left e = rw (eq-eqb p.up no_parent e) (sym (pick_same (ltb left (log2 n)) Unsound))

pub leave_worn : (n : ℕ) (t : Six) (p : Place) (left : ℕ) → log2 n ≤ left → Unsound ≡ leave_chain n t p left
leave_worn n t p left h = rw (le-ltb left (log2 n) h)

pub leave_stands : (n : ℕ) (t : Six) (p : Place) (left : ℕ) → (p.up ≡ no_parent → ⊥) → left < log2 n → stand_on n t p.up ≡ leave_chain n t p left
leave_stands n t p left ne h = rw (ne_eqb p.up no_parent ne, lt-ltb left (log2 n) h)

-- One look.

-- by where the side that moves then stands
abbrev pub ascent_by : (Place → Ascent) → Stood → Ascent
ascent_by f s = elim s [ On r ↦ f r | Unsound ↦ strays ]

module _ (n : ℕ) (t : Six) (p q : Place) where
  -- how the climb goes on after a move, with the chains that may be left before it
  abbrev u_on : (a b : ℕ) → Place → Ascent
  u_on zero b r = strays
  u_on (suc a) b r = ascending a b n t r q

  abbrev v_on : (a b : ℕ) → Place → Ascent
  v_on a zero r = strays
  v_on a (suc b) r = ascending a b n t p r

  looks : (a b : ℕ) → ascending a b n t p q ≡ look n t p q (u_on a b) (v_on a b)
  unfolding ascending
  looks zero zero = refl
  looks zero (suc b) = refl
  looks (suc a) zero = refl
  looks (suc a) (suc b) = refl

  ascending_met : (a b : ℕ) → p.head ≡ q.head → ascending a b n t p q ≡ meets [] [] p q
  ascending_met a b e = looks a b ∙ rw (eq-eqb p.head q.head e, look)

  module _ (apart : p.head ≡ q.head → ⊥) where
    ascending_u : (a b : ℕ) → q.top ≤ p.top → ascending a b n t p q ≡ ascent_by (λ r. u_leaves p (u_on a b r)) (above n t p)
    ascending_u a b h = looks a b ∙ rw (ne_eqb p.head q.head apart, le-leb q.top p.top h, look)

    ascending_v : (a b : ℕ) → p.top < q.top → ascending a b n t p q ≡ ascent_by (λ r. v_leaves q (v_on a b r)) (above n t q)
    ascending_v a b h = looks a b ∙ rw (ne_eqb p.head q.head apart, lt-leb q.top p.top h, look)

-- no climb goes on
by_none : (s : Stood) → ascent_by (λ r. strays) s ≡ strays
by_none (On r) = refl
by_none Unsound = refl

-- The climb from a state of it: each side may still leave the chains that it has not left.

unfoldable pub ascent_from : ℕ → Six → Climb → Ascent
ascent_from n t c = ascending (log2 n - c.u_count) (log2 n - c.v_count) n t c.u c.v

module _ (n : ℕ) (t : Six) (c : Climb) where
  pub ascent_met : c.u.head ≡ c.v.head → ascent_from n t c ≡ meets [] [] c.u c.v
  unfolding ascent_from
  ascent_met e = ascending_met n t c.u c.v (log2 n - c.u_count) (log2 n - c.v_count) e

  module _ (apart : c.u.head ≡ c.v.head → ⊥) where
    pub ascent_by_u : c.v.top ≤ c.u.top
        → ascent_from n t c ≡ ascent_by (λ r. u_leaves c.u (ascent_from n t (u_moved c r))) (leave_chain n t c.u c.u_count)
    unfolding ascent_from
    ascent_by_u h = elim (dec_lt c.u_count (log2 n)) [
      | yes f ↦
          let m : log2 n - c.u_count ≡ suc (log2 n - (c.u_count + 1)) = omega arith in
          rw (lt-ltb c.u_count (log2 n) f, m) (ascending_u n t c.u c.v apart (suc (log2 n - (c.u_count + 1))) (log2 n - c.v_count) h)
      | no f ↦
          let m : log2 n - c.u_count ≡ 0 = omega arith in
          rw (le-ltb c.u_count (log2 n) (omega arith), m)
          (ascending_u n t c.u c.v apart 0 (log2 n - c.v_count) h ∙ by_none (above n t c.u))
    ]

    pub ascent_by_v : c.u.top < c.v.top
        → ascent_from n t c ≡ ascent_by (λ r. v_leaves c.v (ascent_from n t (v_moved c r))) (leave_chain n t c.v c.v_count)
    unfolding ascent_from
    ascent_by_v h = elim (dec_lt c.v_count (log2 n)) [
      | yes f ↦
          let m : log2 n - c.v_count ≡ suc (log2 n - (c.v_count + 1)) = omega arith in
          rw (lt-ltb c.v_count (log2 n) f, m) (ascending_v n t c.u c.v apart (log2 n - c.u_count) (suc (log2 n - (c.v_count + 1))) h)
      | no f ↦
          let m : log2 n - c.v_count ≡ 0 = omega arith in
          rw (le-ltb c.v_count (log2 n) (omega arith), m)
          (ascending_v n t c.u c.v apart (log2 n - c.u_count) 0 h ∙ by_none (above n t c.v))
    ]

-- Where it ends, with the chains that were left before.

abbrev end_at : (p q : Place) (i j : ℕ) → Climbed
end_at p q i j = Ok (record { u = p; v = q; u_count = i; v_count = j })

abbrev end_from : (i j : ℕ) → Ascent → Climbed
end_from i j strays = Err BadTable
end_from i j (meets us vs p q) = end_at p q (i + length us) (j + length vs)

same_counts : (p q : Place) {i j k l : ℕ} → i ≡ k → j ≡ l → end_at p q i j ≡ end_at p q k l
same_counts p q {i} {j} {k} {l} e f = ap (λ (m : ℕ). end_at p q m j) e ∙ ap (end_at p q k) f

end_u : (i j : ℕ) (x : Place) (a : Ascent) → end_from i j (u_leaves x a) ≡ end_from (i + 1) j a
end_u i j x strays = refl
end_u i j x (meets us vs p q) = same_counts p q (omega arith) refl

end_v : (i j : ℕ) (x : Place) (a : Ascent) → end_from i j (v_leaves x a) ≡ end_from i (j + 1) a
end_v i j x strays = refl
end_v i j x (meets us vs p q) = same_counts p q refl (omega arith)

end_none : (a : Ascent) → end_of a ≡ end_from 0 0 a
end_none strays = refl
end_none (meets us vs p q) = same_counts p q (omega arith) (omega arith)

unfoldable pub climb_from : ℕ → Six → Climb → Climbed
climb_from n t c = end_from c.u_count c.v_count (ascent_from n t c)

abbrev pub climb_by : (Place → Climbed) → Stood → Climbed
climb_by f s = elim s [ On r ↦ f r | Unsound ↦ Err BadTable ]

module _ (n : ℕ) (t : Six) (c : Climb) where
  pub climb_met : c.u.head ≡ c.v.head → climb_from n t c ≡ Ok c
  unfolding climb_from
  climb_met e = ap (end_from c.u_count c.v_count) (ascent_met n t c e) ∙ same_counts c.u c.v (omega arith) (omega arith)

  module _ (apart : c.u.head ≡ c.v.head → ⊥) where
    pub climb_by_u : c.v.top ≤ c.u.top → climb_from n t c ≡ climb_by (λ r. climb_from n t (u_moved c r)) (leave_chain n t c.u c.u_count)
    unfolding climb_from
    climb_by_u h = ap (end_from c.u_count c.v_count) (ascent_by_u n t c apart h) ∙ on (leave_chain n t c.u c.u_count)
      where
        on : (s : Stood) → end_from c.u_count c.v_count (ascent_by (λ r. u_leaves c.u (ascent_from n t (u_moved c r))) s)
            ≡ climb_by (λ r. climb_from n t (u_moved c r)) s
        on (On r) = end_u c.u_count c.v_count c.u (ascent_from n t (u_moved c r))
        on Unsound = refl

    pub climb_by_v : c.u.top < c.v.top → climb_from n t c ≡ climb_by (λ r. climb_from n t (v_moved c r)) (leave_chain n t c.v c.v_count)
    unfolding climb_from
    climb_by_v h = ap (end_from c.u_count c.v_count) (ascent_by_v n t c apart h) ∙ on (leave_chain n t c.v c.v_count)
      where
        on : (s : Stood) → end_from c.u_count c.v_count (ascent_by (λ r. v_leaves c.v (ascent_from n t (v_moved c r))) s)
            ≡ climb_by (λ r. climb_from n t (v_moved c r)) s
        on (On r) = end_v c.u_count c.v_count c.v (ascent_from n t (v_moved c r))
        on Unsound = refl

-- The climb from u and v.

module _ (n : ℕ) (t : Six) (u v : ℕ) where
  pub ascent-from : {p q : Place} → stand_on n t u ≡ On p → stand_on n t v ≡ On q → ascent n t u v ≡ ascent_from n t (climb_start p q)
  unfolding ascent ascent_from
  ascent-from {p} {q} e f = let m : log2 n ≡ log2 n - 0 = omega arith in rw (ascent, e, f) (ap (λ (k : ℕ). ascending k k n t p q) m)

  pub ascent_off_u : stand_on n t u ≡ Unsound → ascent n t u v ≡ strays
  unfolding ascent
  ascent_off_u e = rw (ascent, e)

  -- whatever u is
  pub ascent_off_v : stand_on n t v ≡ Unsound → ascent n t u v ≡ strays
  unfolding ascent
  ascent_off_v e = on (stand_on n t u) refl
    where
      on : (s : Stood) → stand_on n t u ≡ s → ascent n t u v ≡ strays
      on (On p) f = rw (ascent, f, e)
      on Unsound f = ascent_off_u f

  pub climb-from : {p q : Place} → stand_on n t u ≡ On p → stand_on n t v ≡ On q → climb_to n t u v ≡ climb_from n t (climb_start p q)
  unfolding climb_to climb_from
  climb-from {p} {q} e f = ap end_of (ascent-from e f) ∙ end_none (ascent_from n t (climb_start p q))

  pub climb_off_u : stand_on n t u ≡ Unsound → Err BadTable ≡ climb_to n t u v
  unfolding climb_to
  climb_off_u e = ap end_of (sym (ascent_off_u e))

  pub climb_off_v : stand_on n t v ≡ Unsound → Err BadTable ≡ climb_to n t u v
  unfolding climb_to
  climb_off_v e = ap end_of (sym (ascent_off_v e))

-- a climb is refused for bad tables, if at all
pub climb_bad : (n : ℕ) (t : Six) (u v : ℕ) {e : Refusal} → climb_to n t u v ≡ Err e → e ≡ BadTable
unfolding climb_to
climb_bad n t u v f = ended (ascent n t u v) f
  where
    ended : (a : Ascent) {e : Refusal} → end_of a ≡ Err e → e ≡ BadTable
    ended strays f = cc
    ended (meets us vs p q) f = cc
