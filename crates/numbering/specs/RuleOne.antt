-- 01, "Definitions", numbering: "The heavy child is the child of greatest size; among equals, the first in the list. .. After a vertex comes the
-- whole subtree of its heavy child, then those of its light children in REVERSE list order."
use Rattle.std.specs.Prelude.{ℕ, ◌≡◌, true, false, List, [], ◌∷◌, reverse, ltb, eqb}
use Rattle.paths.specs.Lists.{keep}
use Rattle.paths.specs.Route.{child?}

-- the children of u in list order
abbrev pub children_of : (A : ℕ → List ℕ) (par dep : ℕ → ℕ) → ℕ → List ℕ
children_of A par dep u = keep (child? par dep u) (A u)

-- the first of greatest size among x and the list behind it
abbrev pub heaviest : (ℕ → ℕ) → ℕ → List ℕ → ℕ
heaviest size x [] = x
heaviest size x (y ∷ l) = elim (ltb (size x) (size y)) [ true ↦ heaviest size y l | false ↦ heaviest size x l ]

-- a list without an entry
abbrev pub without : ℕ → List ℕ → List ℕ
without h [] = []
without h (x ∷ l) = elim (eqb x h) [ true ↦ without h l | false ↦ x ∷ without h l ]

-- the heavy child, then the light ones in reverse list order
abbrev pub by_rule_one : (ℕ → ℕ) → List ℕ → List ℕ
by_rule_one size [] = []
by_rule_one size (x ∷ l) = heaviest size x l ∷ reverse (without (heaviest size x l) (x ∷ l))

-- rule 1: the children of each vertex are numbered in that order
abbrev pub RuleOne : (A : ℕ → List ℕ) (par dep size : ℕ → ℕ) (kids : ℕ → List ℕ) → ℕ → Type 0
RuleOne A par dep size kids u = kids u ≡ by_rule_one size (children_of A par dep u)
