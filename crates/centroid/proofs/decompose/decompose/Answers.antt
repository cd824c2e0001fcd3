use native.Mathlib.Omega.{arith}
use Rattle.centroid.proofs.Decomposing.{going_start, going_few, going_asks, going_more, going_done}
use Rattle.centroid.proofs.decompose.decompose.Goals as goal

pub loop-head-init : goal.loop-head-init
loop-head-init c = going_start c.requires c.zero.ensures _

pub remove_centroid-tail-requires : goal.remove_centroid-tail-requires
remove_centroid-tail-requires c = going_asks c.requires c.zero.ensures c.loop-head.invariant c.loop-head-test.true

pub overflow_add-head : goal.overflow_add-head
overflow_add-head c = omega (arith, (going_few c.requires c.zero.ensures c.loop-head.invariant).1, c.requires.tree.small)

pub loop-head-smaller : goal.loop-head-smaller
loop-head-smaller c = omega (arith, (going_few c.requires c.zero.ensures c.loop-head.invariant).1)

pub loop-head-preserved : goal.loop-head-preserved
loop-head-preserved c = going_more c.requires c.zero.ensures c.loop-head.invariant c.remove_centroid-tail.ensures

pub returns : goal.returns
returns c = going_done c.requires c.zero.ensures c.loop-head.invariant (omega (arith, (going_few c.requires c.zero.ensures c.loop-head.invariant).0))
