use Rattle.symmetry.proofs.Loops.{start_start, start_step, start-done}
use Rattle.symmetry.proofs.start_cursors.Goals as goal

pub loop-u-init : goal.loop-u-init
loop-u-init c = start_start _ _ _ _

pub loop-u-preserved : goal.loop-u-preserved
loop-u-preserved c = start_step c.requires c.loop-u.invariant c.loop-u-test.true

pub returns : goal.returns
returns c = start-done c.loop-u.invariant c.loop-u-test.false
