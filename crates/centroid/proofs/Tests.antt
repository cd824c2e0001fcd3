-- Laws of tests: passed or failed, and the test of other numbers.
use Prim.Native.Nat.{ℕ}
use mathlib.Core.Path.{◌≡◌, refl, sym, ◌∙◌}
use mathlib.Core.Logic.{◌≢◌}
use mathlib.Core.Bool.{Bool, true, false, not, true≢false}
use lib.Dec.{eqb}
use borrow.Author.Tests.{ne_eqb, eqb-false, not-true}

-- no test is passed and failed
pub passed_not_failed : {b : Bool} → b ≡ true → b ≡ false → ⊥
passed_not_failed p q = true≢false (sym p ∙ q)

-- the test of other numbers than v
pub other_true : (v y : ℕ) → y ≢ v → not (eqb y v) ≡ true
other_true v y ne = rw (ne_eqb y v ne) refl

-- and back
pub other_ne : (v y : ℕ) → not (eqb y v) ≡ true → y ≢ v
other_ne v y e = eqb-false y v (not-true (eqb y v) e)
