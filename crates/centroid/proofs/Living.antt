-- Whether a vertex is not removed, as work holds it.
use Prim.Native.Nat.{ℕ, ◌+◌, ◌≤◌, ◌<◌, ◌/◌, ◌%◌, ◌^◌}
use native.Mathlib.Omega.{arith}
use mathlib.Core.Path.{◌≡◌, refl, ap, ◌∙◌, fun_ext}
use mathlib.Core.Bool.{Bool, true, false, not}
use mathlib.Core.List.{List}
use lib.Dec.{eqb, ltb}
use borrow.Author.Tests.{lt-ltb, ltb-true}
use Rattle.sums.specs.Sum.{at}
use Rattle.graph.specs.Marks.{mark_of}
use Rattle.graph.specs.Work.{Only}
use Rattle.centroid.specs.Regions.{removed_from, queue_from}
use Rattle.centroid.specs.Search.{live}

-- the mark of a vertex says it
pub live_mark : (w : List ℕ) (n y : ℕ) → y < n → live w n y ≡ not (eqb (mark_of w (removed_from n) y) 1)
live_mark w n y h = rw (lt-ltb y n h, live) refl

-- one without a mark is left
pub unmarked-live : (w : List ℕ) (n y : ℕ) → y < n → eqb (mark_of w (removed_from n) y) 1 ≡ false → live w n y ≡ true
unmarked-live w n y h e = live_mark w n y h ∙ ap not e

-- it stays where the marks stay
pub live_kept : (n : ℕ) (w w' : List ℕ) → ((i : ℕ) → removed_from n ≤ i → i < queue_from n → at w' i ≡ at w i) → live w' n ≡ live w n
live_kept n w w' same = fun_ext (λ y. go y (ltb y n) refl)
  where
    go : (y : ℕ) (b : Bool) → ltb y n ≡ b
        → ◌≡◌ {A = Bool} (elim b [ true ↦ not (eqb (mark_of w' (removed_from n) y) 1) | false ↦ true ]) (elim b [ true ↦ not (eqb (mark_of w (removed_from n) y) 1) | false ↦ true ])
    go y true e =
        let h : y < n = ltb-true y n e in
        ap (λ (x : ℕ). not (eqb (x / 2 ^ (y % 32) % 2) 1)) (same (removed_from n + y / 32) (omega arith) (omega arith))
    go y false e = refl

-- so writing behind the marks leaves it
pub live_behind : (n e : ℕ) {w w' : List ℕ} → Only (queue_from n) e w w' → live w' n ≡ live w n
live_behind n e {w} {w'} o = live_kept n w w' (λ i a b. o.before i b)
