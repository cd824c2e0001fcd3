-- What a call for ranges answers and leaves, by the way that its tests, its first climb and its room go.
use Rattle.std.specs.Prelude.{Option, Some, None, Ok, Err}
use Prim.Native.Nat.{ℕ, ◌+◌, ◌*◌, ◌≤◌, ◌<◌, ◌^◌}
use native.Mathlib.Omega.{arith}
use mathlib.Core.Path.{◌≡◌, refl, sym, ap, ◌∙◌, subst}
use mathlib.Core.List.{List, [], ◌∷◌, ◌++◌}
use lib.ListN.{length, drop}
use borrow.Author.Tests.{le-leb, lt-leb}
use Rattle.answers.specs.Limits.{max_vertices}
use Rattle.tables.specs.Tables.{Six}
use Rattle.climb.specs.Asked.{size_of, asked}
use Rattle.climb.specs.Climbing.{Climbed, climb_to}
use Rattle.climb.specs.Inner.{ReachedOn}
use Rattle.answers.specs.declared.answer.Refusal.{Refusal}
use Rattle.answers.specs.declared.answer.Refusal.TheVariants.{NoRoom}
use Rattle.climb.specs.declared.places.Place.{Place}
use Rattle.climb.specs.declared.places.Climb.{Climb}
use Rattle.climb.proofs.Passed.{Passed, answered_by, tests_refused}
use Rattle.climb.proofs.Climbs.{climb_bad}
use Rattle.climb.proofs.Reaching.{reached_vertex}
use Rattle.ranges.specs.declared.kinds.PathRange.{PathRange}
use Rattle.ranges.specs.declared.kinds.Kind.{Kind}
use Rattle.ranges.specs.Ranges.{path_ranges}
use Rattle.ranges.specs.Flat.{stride, flat}
use Rattle.ranges.specs.Calls.{Answered, refused, listed, from_found, ranges_of, ListedAs}
use Rattle.ranges.specs.Inner.{Ends, last_chain, last_list}
use Rattle.rangelists.specs.Inner.{Known, Wrote}
use Rattle.ranges.proofs.Bounds.{log2_bounded}
use Rattle.ranges.proofs.Looks.{Agree, Counted, agree}

-- The three ways of a list.

listed_refused : (a : Answered) {x : Refusal} (w : List ℕ) → refused x ≡ a → ListedAs a w w (Err x)
listed_refused a {x} w e = subst (λ (b : Answered). ListedAs b w w (Err x)) e (record { answer = refl; list = refl })

listed_short : (a : Answered) (l : List PathRange) (w : List ℕ) → listed l ≡ a → length w < stride * length l → ListedAs a w w (Err NoRoom)
listed_short a l w e h =
    let t = lt-leb (stride * length l) (length w) h in
    subst (λ (b : Answered). ListedAs b w w (Err NoRoom)) e (record { answer = rw t; list = rw t })

listed_whole : (a : Answered) (l : List PathRange) (w w' : List ℕ) → listed l ≡ a → stride * length l ≤ length w
    → w' ≡ flat l ++ drop (stride * length l) w
    → ListedAs a w w' (Ok (length l))
listed_whole a l w w' e h f =
    let t = le-leb (stride * length l) (length w) h in
    subst (λ (b : Answered). ListedAs b w w' (Ok (length l))) e (record { answer = rw t; list = rw t f })

-- a last chain has one range or none
pub last_few : (last : Option PathRange) → length (last_list last) ≤ 1
last_few (Some r) = omega arith
last_few None = omega arith

-- The first climb: its ranges are as many as it counts.
module _ (kind : Kind) (t : Six) (u v : ℕ) (d : Climb) (met : Ok d ≡ climb_to (size_of t) t u v) where
  counted : Counted kind (size_of t) t.depth d (path_ranges kind (size_of t) t u v)
  counted = subst (λ (x : Climbed). Agree kind (size_of t) t.depth x (path_ranges kind (size_of t) t u v)) (sym met) (agree kind (size_of t) t u v)

  pub met_known : (k : ℕ) → k ≡ length (last_chain kind d) → Known kind (size_of t) t u v (d.u_count + d.v_count + k)
  met_known k e = record { ranges = counted.list; same = counted.same; counted = omega (arith, counted.counted) }

  pub met-ends : size_of t ≤ max_vertices → Ends d
  met-ends small = record { u = omega (arith, counted.u_placed.id_below); v = omega (arith, counted.v_placed.id_below) }

  -- both counts are small
  pub met_few : 1 ≤ size_of t → size_of t ≤ max_vertices → d.u_count + d.v_count < 2 ^ 32
  met_few some small = omega (arith, counted.u_few, counted.v_few, log2_bounded (size_of t) some small)

-- what was written between two places that were reached is what is written between their vertices
pub wrote_there : {kind : Kind} {t : Six} {u v : ℕ} {p q : Place} {w w' : List ℕ}
    → ReachedOn t u (Ok p) → ReachedOn t v (Ok q) → Wrote kind t p.vertex q.vertex w w' → Wrote kind t u v w w'
wrote_there {kind} {t} {u} {v} {p} {q} {w} {w'} f g h =
    subst (λ (x : ℕ). Wrote kind t x v w w') (reached_vertex f) (subst (λ (y : ℕ). Wrote kind t p.vertex y w w') (reached_vertex g) h)

-- The call.
module _ (kind : Kind) (t : Six) (u v : ℕ) where
  -- a test before the climb refuses
  pub ranges_refused : {x : Refusal} (w : List ℕ) → Err x ≡ asked t (u ∷ v ∷ []) Err (Ok (tt {0})) → ListedAs (ranges_of kind t u v) w w (Err x)
  unfolding ranges_of
  ranges_refused w e =
      listed_refused (ranges_of kind t u v) w (tests_refused t (u ∷ v ∷ []) refused (from_found (path_ranges kind (size_of t) t u v)) e)

  -- the tests are passed
  module _ (passed : Passed t (u ∷ v ∷ [])) where
    -- the answer is that of the climb
    ready_ranges : from_found (path_ranges kind (size_of t) t u v) ≡ ranges_of kind t u v
    unfolding ranges_of
    ready_ranges = answered_by passed refused refl

    -- the climb is lost
    pub ranges_lost : (w : List ℕ) {e : Refusal} → Err e ≡ climb_to (size_of t) t u v → ListedAs (ranges_of kind t u v) w w (Err e)
    ranges_lost w {e} lost =
        let f = subst (λ (x : Climbed). Agree kind (size_of t) t.depth x (path_ranges kind (size_of t) t u v)) (sym lost) (agree kind (size_of t) t u v) in
        listed_refused (ranges_of kind t u v) w
        (ap refused (climb_bad (size_of t) t u v (sym lost)) ∙ (sym (ap from_found f) ∙ ready_ranges))

    -- the climb is met at d, whose last chain has k ranges
    module _ {d : Climb} (met : Ok d ≡ climb_to (size_of t) t u v) (k : ℕ) (e : k ≡ length (last_chain kind d)) where
      abbrev count : ℕ
      count = d.u_count + d.v_count + k

      pub known : Known kind (size_of t) t u v count
      known = met_known kind t u v d met k e

      known_ranges : listed known.ranges ≡ ranges_of kind t u v
      known_ranges = sym (ap from_found known.same) ∙ ready_ranges

      -- the list is too short
      pub ranges_short : (w : List ℕ) → length w < stride * count → ListedAs (ranges_of kind t u v) w w (Err NoRoom)
      ranges_short w h = listed_short (ranges_of kind t u v) known.ranges w known_ranges (omega (arith, known.counted))

      -- the ranges are written
      pub ranges-written : {w w' : List ℕ} → stride * count ≤ length w → Wrote kind t u v w w' → ListedAs (ranges_of kind t u v) w w' (Ok count)
      ranges-written {w} {w'} h f =
          subst (λ (i : ℕ). ListedAs (ranges_of kind t u v) w w' (Ok i)) known.counted
          (listed_whole (ranges_of kind t u v) known.ranges w w' known_ranges (omega (arith, known.counted)) (f.each known.ranges known.same))
