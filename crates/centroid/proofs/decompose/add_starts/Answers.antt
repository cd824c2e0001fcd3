use Rattle.centroid.proofs.Adding.{loop_asks, loop_more}
use Rattle.centroid.proofs.decompose.add_starts.Goals as goal

pub add_start-count-requires : goal.add_start-count-requires
add_start-count-requires c = loop_asks c.requires c.loop-x.invariant c.neighbours-x-items.ensures c.loop-x-test.true

pub loop-x-preserved : goal.loop-x-preserved
loop-x-preserved c = loop_more c.requires c.loop-x.invariant c.neighbours-x-items.ensures c.loop-x-test.true c.add_start-count.ensures
