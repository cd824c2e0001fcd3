use Rattle.centroid.proofs.Entering.{entering_start, list_asks, list_more}
use Rattle.centroid.proofs.search.enter_list.Goals as goal

pub loop-x-init : goal.loop-x-init
loop-x-init c = entering_start c.requires

pub enter-count-requires : goal.enter-count-requires
enter-count-requires c = list_asks c.requires c.neighbours-x-items.ensures c.loop-x.invariant c.loop-x-test.true

pub loop-x-preserved : goal.loop-x-preserved
loop-x-preserved c = list_more c.requires c.neighbours-x-items.ensures c.loop-x.invariant c.loop-x-test.true c.enter-count.ensures
