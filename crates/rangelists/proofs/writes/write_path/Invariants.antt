-- `writes::write_path` meets its contract: the loop keeps a climb of which the rest is still to be written, and no side is lost.
use Rattle.numbering.specs.Log.{log2}
use Rattle.tables.specs.Tables.{six_in}
use Rattle.climb.specs.Asked.{size_of}
use Rattle.climb.proofs.Going.{chains_left}
use Rattle.rangelists.proofs.Writing.{Writing}
use Rattle.rangelists.proofs.writes.write_path.Given as goal

abbrev pub invariant-loop-climb : goal.invariant-loop-climb
invariant-loop-climb l = Writing l.kind (six_in l.tables) l.fn.p.vertex l.fn.q.vertex l.count l.initial.ranges l.climb l.ranges

abbrev pub decreases-loop-climb : goal.decreases-loop-climb
decreases-loop-climb l = chains_left (log2 (size_of (six_in l.tables))) l.climb
