-- When a neighbour is entered, as the code tests it.
use Prim.Native.Nat.{ℕ, ◌≤◌}
use mathlib.Core.Path.{◌≡◌, ap, ap₂}
use mathlib.Core.Logic.{◌≢◌}
use mathlib.Core.Bool.{Bool, true, false, not}
use lib.Dec.{eqb, leb}
use borrow.Author.Tests.{le-leb, leb-true, eq-eqb, ne_eqb, eqb-false, not-true}
use Rattle.answers.specs.Choice.{both}
use Rattle.answers.proofs.Choices.{both_true, both_passed}
use Rattle.components.specs.Entering.{leads, beyond}

module _ (level : ℕ → ℕ) (c back y : ℕ) where
  -- its level is not below that of c, and it did not lead here
  pub leads_on : level c ≤ level y → y ≢ back → leads level c back y ≡ true
  leads_on h ne = both_passed (leb (level c) (level y)) (not (eqb y back)) (le-leb (level c) (level y) h) (ap not (ne_eqb y back ne))

  -- one that is entered passes both tests
  pub leads_parts : leads level c back y ≡ true → (level c ≤ level y) × (y ≢ back)
  leads_parts e =
      let b = both_true (leb (level c) (level y)) (not (eqb y back)) e in
      (leb-true (level c) (level y) b.0, eqb-false y back (not-true (eqb y back) b.1))

  -- the tests read two levels only
  pub leads_same : (other : ℕ → ℕ) → other c ≡ level c → other y ≡ level y → leads other c back y ≡ leads level c back y
  leads_same other p q = ap₂ (λ (a b : ℕ). both (leb a b) (not (eqb y back))) p q

-- the branch beside c
pub beyond_centre : (c x b y : ℕ) → x ≡ c → beyond c x b y ≡ y
beyond_centre c x b y e = ap (λ (t : Bool). elim t [ true ↦ y | false ↦ b ]) (eq-eqb x c e)

-- the branch farther off
pub beyond_other : (c x b y : ℕ) → x ≢ c → beyond c x b y ≡ b
beyond_other c x b y ne = ap (λ (t : Bool). elim t [ true ↦ y | false ↦ b ]) (ne_eqb x c ne)
