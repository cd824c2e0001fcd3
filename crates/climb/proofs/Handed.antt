-- Laws for the callers of a climb: from what was reached at u and v, how the climb from u and v ends.
use Rattle.std.specs.Prelude.{Ok, Err}
use Prim.Native.Nat.{ℕ, ◌≤◌}
use mathlib.Core.Path.{◌≡◌, refl, sym, ap, ◌∙◌, subst}
use mathlib.Core.Bool.{true, false}
use Rattle.answers.specs.Limits.{no_parent}
use Rattle.tables.specs.Tables.{Six}
use Rattle.answers.specs.declared.answer.Refusal.{Refusal}
use Rattle.answers.specs.declared.answer.Refusal.TheVariants.{BadTable}
use Rattle.climb.specs.Asked.{size_of}
use Rattle.climb.specs.Sound.{depth_in}
use Rattle.climb.specs.Climbing.{Climbed, climb_to, ancestor_of}
use Rattle.climb.specs.Inner.{Even, hangs?, ReachedOn, ClimbsFrom, ClimbedTo, Meets}
use Rattle.climb.specs.declared.places.Place.{Place}
use Rattle.climb.specs.declared.places.Climb.{Climb}
use Rattle.answers.proofs.Choices.{pick_true, pick_false}
use Rattle.climb.proofs.Climbs.{climb_off_u, climb_off_v}
use Rattle.climb.proofs.Reaching.{reached_vertex, reached_seat, reached_off, reached_bad}

-- How a climb meets: lost on the way, under a head that does not hang, or under one that does.

pub meets_off : {t : Six} {u v : ℕ} {e : Refusal} → ClimbedTo t u v (Err e) → Meets t u v (Err e)
meets_off m = record { is = m.climb; u_low = λ c f. absurd (cc); v_low = λ c f. absurd (cc) }

module _ {t : Six} {u v : ℕ} {c : Climb} (met : ClimbedTo t u v (Ok c)) where
  pub meets_unhung : hangs? (size_of t) t c.u ≡ false → Meets t u v (Err BadTable)
  meets_unhung e =
      record { is = sym (pick_false (Ok c) (Err BadTable) e) ∙ met.climb; u_low = λ c f. absurd (cc); v_low = λ c f. absurd (cc) }

  pub meets_on : hangs? (size_of t) t c.u ≡ true → Meets t u v (Ok c)
  meets_on e = record { is = sym (pick_true (Ok c) (Err BadTable) e) ∙ met.climb; u_low = met.u_low; v_low = met.v_low }

-- u and v were reached
module _ {t : Six} {u v : ℕ} {a b : Place} (at_u : ReachedOn t u (Ok a)) (at_v : ReachedOn t v (Ok b)) where
  -- so that one may climb from them
  pub climbs-from : Even t → size_of t ≤ no_parent → ClimbsFrom t a b
  climbs-from even small = record { even = even; small = small; on_p = reached_seat at_u; on_q = reached_seat at_v }

  -- they meet where u and v do
  pub met_there : {r : Climbed} → Meets t a.vertex b.vertex r → Meets t u v r
  met_there {r} m =
      subst (λ (x : ℕ). Meets t x v r) (reached_vertex at_u) (subst (λ (y : ℕ). Meets t a.vertex y r) (reached_vertex at_v) m)

-- the ancestor is no deeper than the two places
module _ {t : Six} {u v : ℕ} {c : Climb} (met : Meets t u v (Ok c)) {w : Place} (is : w ≡ ancestor_of c) where
  pub u_deeper : w.depth ≤ depth_in t u
  u_deeper = subst (λ (q : Place). q.depth ≤ depth_in t u) (sym is) (met.u_low c refl)

  pub v_deeper : w.depth ≤ depth_in t v
  v_deeper = subst (λ (q : Place). q.depth ≤ depth_in t v) (sym is) (met.v_low c refl)

-- where u or v was not reached, the climb from u and v is refused alike
pub lost_u : {t : Six} {u : ℕ} (v : ℕ) {e : Refusal} → ReachedOn t u (Err e) → Err e ≡ climb_to (size_of t) t u v
lost_u {t} {u} v f = ap Err (reached_bad f) ∙ climb_off_u (size_of t) t u v (reached_off f)

pub lost_v : {t : Six} (u : ℕ) {v : ℕ} {e : Refusal} → ReachedOn t v (Err e) → Err e ≡ climb_to (size_of t) t u v
lost_v {t} u {v} f = ap Err (reached_bad f) ∙ climb_off_v (size_of t) t u v (reached_off f)
