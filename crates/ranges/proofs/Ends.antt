-- On any tables a side leaves no more chains than it may, and both ends of a climb stand on sound vertices.
use Prim.Native.Nat.{ℕ, zero, suc, ◌≤◌}
use native.Mathlib.Omega.{arith}
use mathlib.Core.Path.{◌≡◌, refl}
use mathlib.Core.Bool.{Bool, true, false}
use mathlib.Core.List.{List, []}
use lib.Dec.{eqb, leb}
use lib.ListN.{length}
use Rattle.answers.specs.Limits.{no_parent}
use Rattle.numbering.specs.Log.{log2}
use Rattle.tables.specs.Tables.{Six}
use Rattle.answers.specs.Choice.{pick}
use Rattle.climb.specs.Sound.{stand_on, Stood, On, Unsound}
use Rattle.climb.specs.Climbing.{Ascent, strays, meets, u_leaves, v_leaves, above, look, ascending, ascent}
use Rattle.climb.specs.Inner.{Placed}
use Rattle.climb.specs.declared.places.Place.{Place}
use Rattle.climb.proofs.Soundness.{stood_placed}
use Rattle.climb.proofs.Climbs.{ascent_by, ascent_off_u, ascent_off_v}

pub record Ended (n : ℕ) (D : List ℕ) (a b : ℕ) (us vs : List Place) (p q : Place) : Type 0 where
  pub u_few : length us ≤ a
  pub v_few : length vs ≤ b
  pub u_placed : Placed n D p
  pub v_placed : Placed n D q

-- where a climb meets, of which the sides may leave a and b chains
abbrev pub EndsWell : ℕ → List ℕ → (a b : ℕ) → Ascent → Type 0
EndsWell n D a b strays = Unit {0}
EndsWell n D a b (meets us vs p q) = Ended n D a b us vs p q

pick_second : (b : Bool) (s : Stood) {r : Place} → pick b Unsound s ≡ On r → s ≡ On r
pick_second true s e = let z : ◌≡◌ {A = ℕ} 0 1 = cc in absurd (omega arith)
pick_second false s e = e

module _ (n : ℕ) (t : Six) where
  abbrev Sound : Place → Type 0
  Sound p = Placed n t.depth p

  abbrev Well : (a b : ℕ) → Ascent → Type 0
  Well a b x = EndsWell n t.depth a b x

  -- one chain more
  more_u : (a b : ℕ) (x : Place) (y : Ascent) → Well a b y → Well (suc a) b (u_leaves x y)
  more_u a b x strays e = tt
  more_u a b x (meets us vs p q) e = record { u_few = omega (arith, e.u_few); v_few = e.v_few; u_placed = e.u_placed; v_placed = e.v_placed }

  more_v : (a b : ℕ) (x : Place) (y : Ascent) → Well a b y → Well a (suc b) (v_leaves x y)
  more_v a b x strays e = tt
  more_v a b x (meets us vs p q) e = record { u_few = e.u_few; v_few = omega (arith, e.v_few); u_placed = e.u_placed; v_placed = e.v_placed }

  above_sound : (p : Place) {r : Place} → above n t p ≡ On r → Sound r
  above_sound p e = stood_placed n t p.up (pick_second (eqb p.up no_parent) _ e)

  -- one look, by what follows a move
  look-ends : (a b : ℕ) (p q : Place) (u v : Place → Ascent) → Sound p → Sound q
      → ((r : Place) → Sound r → Well a b (u_leaves p (u r))) → ((r : Place) → Sound r → Well a b (v_leaves q (v r)))
      → Well a b (look n t p q u v)
  look-ends a b p q u v i j on-u on-v = on (eqb p.head q.head) (leb q.top p.top) (above n t p) (above n t q) refl refl
    where
      on : (k l : Bool) (s z : Stood) → above n t p ≡ s → above n t q ≡ z
          → Well a b (elim k [
            | true ↦ meets [] [] p q
            | false ↦ elim l [ true ↦ ascent_by (λ r. u_leaves p (u r)) s | false ↦ ascent_by (λ r. v_leaves q (v r)) z ]
          ])
      on true l s z e f = record { u_few = omega arith; v_few = omega arith; u_placed = i; v_placed = j }
      on false true (On r) z e f = on-u r (above_sound p e)
      on false true Unsound z e f = tt
      on false false s (On r) e f = on-v r (above_sound q f)
      on false false s Unsound e f = tt

  ascending-ends : (a b : ℕ) (p q : Place) → Sound p → Sound q → Well a b (ascending a b n t p q)
  unfolding ascending
  ascending-ends zero zero p q i j = look-ends 0 0 p q (λ r. strays) (λ r. strays) i j (λ r k. tt) (λ r k. tt)
  ascending-ends zero (suc b) p q i j =
      look-ends 0 (suc b) p q (λ r. strays) (λ r. ascending 0 b n t p r) i j (λ r k. tt)
      (λ r k. more_v 0 b q (ascending 0 b n t p r) (ascending-ends zero b p r i k))
  ascending-ends (suc a) zero p q i j =
      look-ends (suc a) 0 p q (λ r. ascending a 0 n t r q) (λ r. strays) i j
      (λ r k. more_u a 0 p (ascending a 0 n t r q) (ascending-ends a zero r q k j)) (λ r k. tt)
  ascending-ends (suc a) (suc b) p q i j =
      look-ends (suc a) (suc b) p q (λ r. ascending a (suc b) n t r q) (λ r. ascending (suc a) b n t p r) i j
      (λ r k. more_u a (suc b) p (ascending a (suc b) n t r q) (ascending-ends a (suc b) r q k j))
      (λ r k. more_v (suc a) b q (ascending (suc a) b n t p r) (ascending-ends (suc a) b p r i k))

  pub ascent-ends : (u v : ℕ) → Well (log2 n) (log2 n) (ascent n t u v)
  unfolding ascent
  ascent-ends u v = on (stand_on n t u) (stand_on n t v) refl refl
    where
      on : (a b : Stood) → stand_on n t u ≡ a → stand_on n t v ≡ b → Well (log2 n) (log2 n) (ascent n t u v)
      on Unsound b e f = rw (ascent_off_u n t u v e) tt
      on (On p) Unsound e f = rw (ascent_off_v n t u v f) tt
      on (On p) (On q) e f = rw (ascent, e, f) (ascending-ends (log2 n) (log2 n) p q (stood_placed n t u e) (stood_placed n t v f))
