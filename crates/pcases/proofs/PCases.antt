-- The P cases of 01: each test is right, every case of the table passes its test, and so every case means what it says.
use mathlib.Core.Path.{◌≡◌, refl}
use mathlib.Core.Bool.{true}
use lib.Dec.{eqb, ltb}
use borrow.Author.Tests.{eqb-true, ltb-true}
use Rattle.paths.specs.Route.{route, ptail}
use Rattle.answers.specs.Limits.{max_vertices, max_targets, no_parent}
use Rattle.graph.specs.Lent.{list_of}
use Rattle.numbering.specs.Log.{halvings, log2}
use Rattle.climb.specs.Sound.{sound?}
use Rattle.climb.specs.Climbing.{ascending, ascent, climb_to}
use Rattle.queries.specs.Queries.{ancestor_from}
use Rattle.ranges.specs.Ranges.{path_ranges}
use Rattle.ranges.specs.Calls.{ranges_of}
use Rattle.pcases.specs.Checks.{every}
use Rattle.pcases.specs.Cases.{Case, refused, numbered, answered, ranged, decomposed, Means, Each}
use Rattle.pcases.specs.GraphChecks.{verdicts, first_code}
use Rattle.pcases.specs.Holds.{tree_from?, own?, holds}
use Rattle.pcases.specs.Table.{T, S, one, path_of_four, one_way, table}
use Rattle.pcases.proofs.Checking.{both_iff, every_each}
use Rattle.pcases.proofs.Refusing.{refusal_right}
use Rattle.pcases.proofs.Numbering.{tables_right}
use Rattle.pcases.proofs.Answering.{answer_right, ranges_right}
use Rattle.pcases.proofs.Decomposing.{decomposition_right}

-- a case that passes its test means what it says
pub holds_means : (c : Case) → holds c ≡ true → Means c
holds_means (refused g root code) e =
    let p = (both_iff (ltb 0 code) (eqb (first_code (verdicts g.offsets g.targets root)) code)).0 e in
    refusal_right g root code (ltb-true 0 code p.0) (eqb-true (first_code (verdicts g.offsets g.targets root)) code p.1)
holds_means (numbered x) e = tables_right x e
holds_means (answered x q a) e = let p = (both_iff (own? x) _).0 e in answer_right x q a p.0 p.1
holds_means (ranged x kind u v l) e = let p = (both_iff (own? x) _).0 e in ranges_right x kind u v l p.0 p.1
holds_means (decomposed g parent depth up level) e =
    let p = (both_iff (tree_from? g 0 parent depth) _).0 e in
    decomposition_right g parent depth up level p.0 p.1

-- every case of the table passes its test
pub p_cases : every holds table ≡ true
unfolding
    route ptail max_vertices max_targets no_parent list_of halvings log2 sound? ascending ascent climb_to ancestor_from path_ranges ranges_of
    T S one path_of_four one_way table
p_cases = refl

-- every case of the table means what it says
pub p_cases_mean : Each Means table
p_cases_mean = every_each holds holds_means table p_cases
