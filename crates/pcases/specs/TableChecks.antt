-- Tests of six tables: whether they are those of a tree from a root.
use Rattle.std.specs.Prelude.{ℕ, suc, ◌+◌, Bool, true, List, [], ◌∷◌, eqb, leb, length}
use Rattle.sums.specs.Sum.{at}
use Rattle.answers.specs.Limits.{no_parent}
use Rattle.numbering.specs.Numbering.{total}
use Rattle.tables.specs.Tables.{Six, kids_by_rule_one}
use Rattle.answers.specs.Choice.{both}
use Rattle.pcases.specs.Checks.{below, all}

abbrev pub long_tests : ℕ → Six → List Bool
long_tests n t =
    eqb (length t.parent) n
    ∷ eqb (length t.depth) n
    ∷ eqb (length t.head) n
    ∷ eqb (length t.id) n
    ∷ eqb (length t.order) n
    ∷ eqb (length t.size) n
    ∷ []

-- the first has the number `next`, and each next one the number behind the subtree of the one before
abbrev pub numbered? : (id size : ℕ → ℕ) → ℕ → List ℕ → Bool
numbered? id size next [] = true
numbered? id size next (v ∷ l) = both (eqb (id v) next) (numbered? id size (next + size v) l)

abbrev pub light? : (head size : ℕ → ℕ) → ℕ → List ℕ → Bool
light? head size most [] = true
light? head size most (v ∷ l) = both (eqb (head v) v) (both (leb (size v) most) (light? head size most l))

abbrev pub chained? : (head size : ℕ → ℕ) → ℕ → List ℕ → Bool
chained? head size h [] = true
chained? head size h (v ∷ l) = both (eqb (head v) h) (light? head size (size v) l)

-- the size of u is told by its children's, and so are their numbers and chains
abbrev pub arranged_tests : (head id size : ℕ → ℕ) → ℕ → List ℕ → List Bool
arranged_tests head id size u kids =
    eqb (size u) (suc (total size kids)) ∷ numbered? id size (id u + 1) kids ∷ chained? head size (head u) kids ∷ []

-- the tables are those of the tree of the lists A from this root, besides its parents and depths
abbrev pub tables_tests : ℕ → (ℕ → List ℕ) → ℕ → Six → List Bool
tables_tests n A root t =
    all (long_tests n t)
    ∷ eqb (at t.parent root) no_parent
    ∷ eqb (at t.id root) 0
    ∷ eqb (at t.head root) root
    ∷ below n (λ u. all (arranged_tests (at t.head) (at t.id) (at t.size) u (kids_by_rule_one A t u)))
    ∷ below n (λ v. eqb (at t.order (at t.id v)) v)
    ∷ []
