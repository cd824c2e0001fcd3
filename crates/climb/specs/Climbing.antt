-- 01, "Sound entries": the climb of two ends until their heads are the same, on any tables.
use Rattle.std.specs.Prelude.{ℕ, zero, suc, true, false, List, [], ◌∷◌, eqb, leb, length, Result, Ok, Err}
use Rattle.answers.specs.Limits.{no_parent}
use Rattle.numbering.specs.Log.{log2}
use Rattle.tables.specs.Tables.{Six}
use Rattle.answers.specs.Choice.{pick}
use Rattle.climb.specs.Sound.{Stood, On, Unsound, stand_on}
use Rattle.climb.specs.declared.places.Place.{Place}
use Rattle.climb.specs.declared.places.Climb.{Climb}
use Rattle.answers.specs.declared.answer.Refusal.{Refusal}
use Rattle.answers.specs.declared.answer.Refusal.TheVariants.{BadTable}

-- A climb strays, or both sides come to one chain, at p and q. `us` and `vs` are the places from which the u side and the v side left their chains, in
-- the order in which each left them.
pub data Ascent : Type 0 where
  strays : Ascent
  meets : (us vs : List Place) → (p q : Place) → Ascent

-- a climb in which a side leaves its chain from x, and then goes on
abbrev pub u_leaves : Place → Ascent → Ascent
u_leaves x strays = strays
u_leaves x (meets us vs p q) = meets (x ∷ us) vs p q

abbrev pub v_leaves : Place → Ascent → Ascent
v_leaves x strays = strays
v_leaves x (meets us vs p q) = meets us (x ∷ vs) p q

-- A chain is left for the head's parent. "A climb that must leave a parentless head while heads differ gives 9."
abbrev pub above : ℕ → Six → Place → Stood
above n t p = pick (eqb p.up no_parent) Unsound (stand_on n t p.up)

-- "While heads differ, the side with the deeper head moves, u on a tie." `u_on` and `v_on` say how the climb goes on from where that side then stands.
abbrev pub look : ℕ → Six → (p q : Place) → (u_on v_on : Place → Ascent) → Ascent
look n t p q u_on v_on =
    elim (eqb p.head q.head) [
      | true ↦ meets [] [] p q
      | false ↦ elim (leb q.top p.top) [
        | true ↦ elim (above n t p) [ On r ↦ u_leaves p (u_on r) | Unsound ↦ strays ]
        | false ↦ elim (above n t q) [ On r ↦ v_leaves q (v_on r) | Unsound ↦ strays ]
      ]
    ]

-- The climb from p and q, where the u side may still leave a chains and the v side b. "So does a climb that would step to a parent after the moving
-- side has already left floor(log2 n) chains."
unfoldable pub ascending : (a b : ℕ) → ℕ → Six → (p q : Place) → Ascent
ascending zero zero n t p q = look n t p q (λ r. strays) (λ r. strays)
ascending zero (suc b) n t p q = look n t p q (λ r. strays) (λ r. ascending zero b n t p r)
ascending (suc a) zero n t p q = look n t p q (λ r. ascending a zero n t r q) (λ r. strays)
ascending (suc a) (suc b) n t p q = look n t p q (λ r. ascending a (suc b) n t r q) (λ r. ascending (suc a) b n t p r)

-- the climb from u and v
unfoldable pub ascent : ℕ → Six → ℕ → ℕ → Ascent
ascent n t u v =
    elim (stand_on n t u) [
      | On p ↦ elim (stand_on n t v) [ On q ↦ ascending (log2 n) (log2 n) n t p q | Unsound ↦ strays ]
      | Unsound ↦ strays
    ]

-- where a climb ends: the two places on one chain, and how many chains each side left; a climb that strays is refused
abbrev pub Climbed : Type 0
Climbed = Result Climb Refusal

abbrev pub end_of : Ascent → Climbed
end_of strays = Err BadTable
end_of (meets us vs p q) = Ok (record { u = p; v = q; u_count = length us; v_count = length vs })

unfoldable pub climb_to : ℕ → Six → ℕ → ℕ → Climbed
climb_to n t u v = end_of (ascent n t u v)

-- "of two ends with one head the shallower is the ancestor, u at equal depth"
abbrev pub ancestor_of : Climb → Place
ancestor_of c = pick (leb c.u.depth c.v.depth) c.u c.v
