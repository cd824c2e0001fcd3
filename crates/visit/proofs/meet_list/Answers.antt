use native.Mathlib.Omega.{arith}
use Rattle.visit.proofs.Growing.{few}
use Rattle.visit.proofs.Looking.{list_asks, list_more}
use Rattle.visit.proofs.meet_list.Goals as goal

pub overflow_add-u : goal.overflow_add-u
overflow_add-u c = omega (arith, few c.requires.seen.seen)

pub offset_bounds-work-base : goal.offset_bounds-work-base
offset_bounds-work-base c = omega (arith, few c.requires.seen.seen)

pub bounds-work-base : goal.bounds-work-base
bounds-work-base c = omega (arith, few c.requires.seen.seen)

pub meet-count-requires : goal.meet-count-requires
meet-count-requires c = list_asks _ _ _ _ _ _ _ _ c.requires c.neighbours-x-items.ensures c.loop-x.invariant c.loop-x-test.true

pub loop-x-preserved : goal.loop-x-preserved
loop-x-preserved c = list_more _ _ _ _ _ _ _ _ c.requires c.neighbours-x-items.ensures c.loop-x.invariant c.loop-x-test.true c.meet-count.ensures
