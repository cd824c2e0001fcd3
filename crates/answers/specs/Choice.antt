-- Choosing by a test, and tests together.
use Rattle.std.specs.Prelude.{ℕ, Bool, true, false, List, [], ◌∷◌}

abbrev pub pick : {A : Type 0} → Bool → A → A → A
pick true a b = a
pick false a b = b

-- both tests pass
abbrev pub both : Bool → Bool → Bool
both true b = b
both false b = false

-- each number of a list passes the test
abbrev pub all? : (ℕ → Bool) → List ℕ → Bool
all? t [] = true
all? t (x ∷ l) = both (t x) (all? t l)
