use Rattle.symmetry.proofs.Loops.{turn_start, turn-done}
use Rattle.symmetry.proofs.turn.Goals as goal

pub loop-u-init : goal.loop-u-init
loop-u-init c = turn_start c.requires

pub returns : goal.returns
returns c = turn-done c.requires c.loop-u.invariant c.loop-u-test.false
