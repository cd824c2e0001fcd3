-- The lookup goes on with fewer steps left.
use Rattle.queries.proofs.ancestors.+ancestor_from.Given as goal

abbrev pub decreases-ancestor_from : goal.decreases-ancestor_from
decreases-ancestor_from l = l.k
