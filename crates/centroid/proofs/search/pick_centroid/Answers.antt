use native.Mathlib.Omega.{arith}
use Rattle.centroid.proofs.Handing.{handing_start, down_found, down-from, down_fits, down_more}
use Rattle.centroid.proofs.search.pick_centroid.Goals as goal

pub loop-left-init : goal.loop-left-init
loop-left-init c = handing_start c.requires

pub returns-then-total-size : goal.returns-then-total-size
returns-then-total-size c = down_found c.requires c.loop-left.invariant c.loop-left-test.true c.if-total-size.true

pub bounds-work-n-in-loop-left-2 : goal.bounds-work-n-in-loop-left-2
bounds-work-n-in-loop-left-2 c = omega (arith, down-from c.requires c.loop-left.invariant c.loop-left-test.true c.if-total-size.false)

pub overflow_add-work-in-loop-left : goal.overflow_add-work-in-loop-left
overflow_add-work-in-loop-left c = omega (arith, down_fits c.requires c.loop-left.invariant c.loop-left-test.true c.if-total-size.false)

pub bounds-work-n-in-loop-left-3 : goal.bounds-work-n-in-loop-left-3
bounds-work-n-in-loop-left-3 c = omega (arith, down-from c.requires c.loop-left.invariant c.loop-left-test.true c.if-total-size.false)

pub loop-left-preserved : goal.loop-left-preserved
loop-left-preserved c = down_more c.requires c.loop-left.invariant c.loop-left-test.true c.if-total-size.false
