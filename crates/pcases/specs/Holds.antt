-- The test of a case. A reader need not believe it: a case that passes means what it says (proofs/PCases.antt, holds-means).
use Rattle.std.specs.Prelude.{ℕ, Bool, List, eqb, ltb}
use Rattle.sums.specs.Sum.{at}
use Rattle.answers.specs.Choice.{both}
use Rattle.ranges.specs.Calls.{ranges_of}
use Rattle.pcases.specs.Cases.{Graph, vertices_of, lists_of, Example, answer_to, Case, refused, numbered, answered, ranged, decomposed}
use Rattle.pcases.specs.Checks.{all}
use Rattle.pcases.specs.GraphChecks.{verdicts, first_code, lent_tests, tree_tests}
use Rattle.pcases.specs.TableChecks.{tables_tests}
use Rattle.pcases.specs.AnswerChecks.{same_answer?, listed?}
use Rattle.pcases.specs.CentroidChecks.{decomposition_tests}

-- the graph is accepted: a tree with these parents and depths from this root
abbrev pub tree_from? : Graph → ℕ → (parent depth : List ℕ) → Bool
tree_from? g root parent depth =
    both (all (lent_tests g.offsets g.targets)) (all (tree_tests (vertices_of g) (lists_of g) root (at parent) (at depth)))

-- the example's graph is accepted, and the tables are its own
abbrev pub own? : Example → Bool
own? x =
    both (tree_from? x.graph x.root x.tables.parent x.tables.depth)
    (all (tables_tests (vertices_of x.graph) (lists_of x.graph) x.root x.tables))

-- whether a case holds
abbrev pub holds : Case → Bool
holds (refused g root code) = both (ltb 0 code) (eqb (first_code (verdicts g.offsets g.targets root)) code)
holds (numbered x) = own? x
holds (answered x q a) = both (own? x) (same_answer? (answer_to q x.tables) a)
holds (ranged x kind u v l) = both (own? x) (listed? (ranges_of kind x.tables u v) l)
holds (decomposed g parent depth up level) =
    both (tree_from? g 0 parent depth) (all (decomposition_tests (vertices_of g) (lists_of g) (at parent) (at depth) up level))
