-- The tests of centroids, by counting, are right.
use Prim.Native.Nat.{ℕ, ◌+◌, ◌*◌, ◌<◌}
use mathlib.Core.Path.{◌≡◌, refl, ap}
use mathlib.Core.Logic.{◌↔◌, ◌≢◌}
use mathlib.Core.Bool.{Bool, true, false, not}
use mathlib.Core.List.{List}
use lib.Dec.{eqb, leb, ltb}
use lib.ListN.{length}
use borrow.Author.Tests.{eqb-true, eqb-false, leb-true, ltb-true, le-leb, ne_eqb, not-true}
use Rattle.sums.specs.Sum.{how_many}
use Rattle.answers.specs.Limits.{no_parent}
use Rattle.answers.specs.Choice.{pick, both}
use Rattle.centroid.specs.Components.{component_of, in_part, Halves, CentroidFrom}
use Rattle.centroid.specs.Decomposition.{Began, first, next, CentroidAt}
use Rattle.pcases.specs.Checks.{all}
use Rattle.pcases.specs.CentroidChecks.{halves?, centroid_tests, next_tests, started?}
use Rattle.pcases.proofs.Checking.{Passed, both_iff, all_iff, below_iff, some_in, pick_first, pick_passes}

-- two numbers differ
other_iff : (a b : ℕ) → (not (eqb a b) ≡ true) ↔ (a ≢ b)
other_iff a b = (λ e. eqb-false a b (not-true (eqb a b) e), λ d. ap not (ne_eqb a b d))

module _ (n : ℕ) (way : ℕ → ℕ → List ℕ) (C : ℕ → Bool) where
  -- the test of halving is right
  halves_iff : (v : ℕ) → (halves? n way C v ≡ true) ↔ Halves n way C v
  halves_iff v = (
    λ e w hw cw d. leb-true (2 * how_many n (in_part way C v w)) (how_many n C)
        (pick_first (most w) true ((both_iff (C w) (not (eqb w v))).1 (cw, (other_iff w v).1 d)) ((below_iff n _).0 e w hw)),
    λ h. (below_iff n _).1 (λ w hw. pick_passes (both (C w) (not (eqb w v)))
        (λ b. (let p = (both_iff (C w) (not (eqb w v))).0 b in
        le-leb (2 * how_many n (in_part way C v w)) (how_many n C) (h w hw p.0 ((other_iff w v).0 p.1))))),
  )
    where
      most : ℕ → Bool
      most w = leb (2 * how_many n (in_part way C v w)) (how_many n C)

  -- the tests of a centroid are right
  centroid_of : (s c : ℕ) → all (centroid_tests n way C s c) ≡ true → CentroidFrom n way C s c
  centroid_of s c e =
      record {
        inside = p.1.0;
        start_inside = p.1.1.0;
        halves = (halves_iff c).0 p.1.1.1.0;
        nearer = λ y hy cy d h. ltb-true (length (way s c)) (length (way s y))
            (pick_first (ltb (length (way s c)) (length (way s y))) true
            ((both_iff (C y) _).1 (cy, (both_iff (not (eqb y c)) (halves? n way C y)).1 ((other_iff y c).1 d, (halves_iff y).1 h)))
            ((below_iff n _).0 p.1.1.1.1.0 y hy));
      }
    where
      p : Passed (centroid_tests n way C s c)
      p = (all_iff (centroid_tests n way C s c)).0 e

  -- its start is a vertex
  start_below : (s c : ℕ) → all (centroid_tests n way C s c) ≡ true → s < n
  start_below s c e = ltb-true s n ((all_iff (centroid_tests n way C s c)).0 e).0

-- the test of a centroid and its start is right
pub started_of :
    (n : ℕ) (A : ℕ → List ℕ) (way : ℕ → ℕ → List ℕ) (up level : ℕ → ℕ) (c : ℕ)
    → started? n A way up level c ≡ true
    → CentroidAt n A way up level c
started_of n A way up level c e = go (eqb (up c) no_parent) refl e
  where
    C : ℕ → Bool
    C = component_of way level c

    from : (s : ℕ) → Began n A up level c s → all (centroid_tests n way C s c) ≡ true → CentroidAt n A way up level c
    from s b t = record { start = s; start_below = start_below n way C s c t; began = b; centroid = centroid_of n way C s c t }

    go : (b : Bool) → eqb (up c) no_parent ≡ b
        → pick b (both (eqb (level c) 0) (all (centroid_tests n way C 0 c))) (all (next_tests n A way up level c)) ≡ true
        → CentroidAt n A way up level c
    go true q t =
        let p = (both_iff (eqb (level c) 0) (all (centroid_tests n way C 0 c))).0 t in
        from 0 (first (eqb-true (up c) no_parent q) (eqb-true (level c) 0 p.0)) p.1
    go false q t =
        let p = (all_iff (next_tests n A way up level c)).0 t in
        let r = some_in (λ s. all (centroid_tests n way C s c)) (A (up c)) p.1.1.0 in
        from r.0 (next r.0 (ltb-true (up c) n p.0) r.1 (eqb-true (level c) (level (up c) + 1) p.1.0)) r.2
