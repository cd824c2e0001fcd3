-- 01, "Codes": "A build, or validation alone, tests 1 to 8 in that order." A call's tests stand in a list, and its code is that of the first
-- test that is not passed.
use Rattle.std.specs.Prelude.{ℕ, ◌≡◌, ◌⊎◌, Bool, true, false, List, [], ◌∷◌}
use Rattle.answers.specs.Codes.{done}

-- a test: the code of its refusal, and what passes it
pub record Test : Type 1 where
  pub code : ℕ
  pub passed : Type 0

abbrev pub test : ℕ → Type 0 → Test
test code passed = record { code = code; passed = passed }

-- c is the code of the first test of the list that is not passed, and 0 where all are
abbrev pub First : List Test → ℕ → Type 0
First [] c = c ≡ done
First (t ∷ ts) c = ((t.passed → ⊥) × (c ≡ t.code)) ⊎ (t.passed × First ts c)

-- the answer r tells whether P holds
pub record Decides (P : Type 0) (r : Bool) : Type 0 where
  pub right : r ≡ true → P
  pub wrong : r ≡ false → P → ⊥
