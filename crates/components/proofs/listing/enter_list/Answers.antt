use Rattle.components.proofs.Putting.{put_asks, put_next}
use Rattle.components.proofs.listing.enter_list.Goals as goal

pub enter-requires : goal.enter-requires
enter-requires c = put_asks c.requires c.loop-y.y-index c.loop-y.invariant.1 c.neighbours-y-items.ensures c.loop-y-test.true

pub loop-y-preserved : goal.loop-y-preserved
loop-y-preserved c = ((cc, cc, cc), put_next c.requires c.loop-y.y-index c.loop-y.invariant.1 c.neighbours-y-items.ensures c.loop-y-test.true c.enter.ensures.lists)
