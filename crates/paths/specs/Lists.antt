-- Of lists in general.
use Rattle.std.specs.Prelude.{ℕ, Bool, true, false, List, [], ◌∷◌, ◌++◌, length, drop}

-- the entries of a list that pass a test, in order
abbrev pub keep : (ℕ → Bool) → List ℕ → List ℕ
keep t [] = []
keep t (x ∷ l) = elim (t x) [ true ↦ x ∷ keep t l | false ↦ keep t l ]

-- a list at the front of a lent one, whose entries past it are unchanged
abbrev pub front : {A : Type 0} → List A → List A → List A
front l lent = l ++ drop (length l) lent
