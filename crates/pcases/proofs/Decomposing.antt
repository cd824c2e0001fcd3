-- A decomposition tested along the paths of one rooting is one by every way, since a tree has one way.
use Prim.Native.Nat.{ℕ}
use mathlib.Core.Path.{◌≡◌}
use mathlib.Core.Bool.{true}
use mathlib.Core.List.{List}
use lib.ListN.{length}
use borrow.Author.Tests.{eqb-true}
use Rattle.sums.specs.Sum.{at}
use Rattle.paths.specs.Walk.{Stands}
use Rattle.paths.specs.Rooted.{Spans}
use Rattle.paths.specs.Route.{ptail}
use Rattle.centroid.specs.Decomposition.{DecompositionOf}
use Rattle.centroid.proofs.Ways.{centroid_ways}
use Rattle.centroidlaws.proofs.Agreement.{decomposition-one}
use Rattle.pcases.specs.Cases.{Graph, vertices_of, lists_of, HasDecomposition}
use Rattle.pcases.specs.Checks.{all}
use Rattle.pcases.specs.CentroidChecks.{decomposition_tests}
use Rattle.pcases.specs.Holds.{tree_from?}
use Rattle.pcases.proofs.Checking.{all_iff, below_iff}
use Rattle.pcases.proofs.Spanning.{tree-from}
use Rattle.pcases.proofs.Halving.{started_of}

-- the tests of a decomposition are right
decomposition_of :
    (n : ℕ) (A : ℕ → List ℕ) (par dep : ℕ → ℕ) (up level : List ℕ)
    → Spans n (Stands A) 0 par dep → all (decomposition_tests n A par dep up level) ≡ true → DecompositionOf n A up level
decomposition_of n A par dep up level S e =
    let p = (all_iff (decomposition_tests n A par dep up level)).0 e in
    record {
      up_long = eqb-true (length up) n p.0;
      level_long = eqb-true (length level) n p.1.0;
      centroids = λ way W c hc. centroid_ways S W hc
          (started_of n A (ptail par dep) (at up) (at level) c ((below_iff n _).0 p.1.1.0 c hc));
    }

-- the test of a decomposed tree is right
pub decomposition_right :
    (g : Graph) (parent depth up level : List ℕ)
    → tree_from? g 0 parent depth ≡ true
    → all (decomposition_tests (vertices_of g) (lists_of g) (at parent) (at depth) up level) ≡ true
    → HasDecomposition g up level
decomposition_right g parent depth up level s e =
    let T = tree-from g 0 parent depth s in
    let D = decomposition_of (vertices_of g) (lists_of g) (at parent) (at depth) up level T.spans e in
    record { accepted = T.accepted; decomposition = D; only = λ up' level' D'. decomposition-one T.spans D' D }
