-- What the tests of the cases are made of: tests that compute.
use Rattle.std.specs.Prelude.{ℕ, zero, suc, Bool, true, false, List, [], ◌∷◌}
use Rattle.answers.specs.Choice.{pick, both}

-- every number below n passes
abbrev pub below : ℕ → (ℕ → Bool) → Bool
below zero t = true
below (suc n) t = both (below n t) (t n)

-- every entry of a list passes
abbrev pub every : {A : Type 0} → (A → Bool) → List A → Bool
every t [] = true
every t (x ∷ l) = both (t x) (every t l)

-- some entry of a list passes
abbrev pub some : {A : Type 0} → (A → Bool) → List A → Bool
some t [] = false
some t (x ∷ l) = pick (t x) true (some t l)

-- two lists are equal, where `same` tells whether two entries are
abbrev pub same_list : {A : Type 0} → (A → A → Bool) → List A → List A → Bool
same_list same [] [] = true
same_list same [] (y ∷ m) = false
same_list same (x ∷ l) [] = false
same_list same (x ∷ l) (y ∷ m) = both (same x y) (same_list same l m)

-- all of the tests pass
abbrev pub all : List Bool → Bool
all [] = true
all (b ∷ l) = both b (all l)
