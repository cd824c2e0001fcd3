-- `climbing::climb_to_lca` meets its contract: the loop keeps a climb under way, and each way out ends it.
use Rattle.numbering.specs.Log.{log2}
use Rattle.tables.specs.Tables.{six_in}
use Rattle.climb.specs.Asked.{size_of}
use Rattle.climb.proofs.Going.{Going, chains_left}
use Rattle.climb.proofs.climbing.climb_to_lca.Given as goal

abbrev pub invariant-loop-climb : goal.invariant-loop-climb
invariant-loop-climb l = Going (six_in l.tables) (log2 (size_of (six_in l.tables))) l.initial.climb.u.vertex l.initial.climb.v.vertex l.climb

abbrev pub decreases-loop-climb : goal.decreases-loop-climb
decreases-loop-climb l = chains_left (log2 (size_of (six_in l.tables))) l.climb
