use Rattle.symmetry.proofs.LoopBack.{back_start, list_back_asks, back_more, back_stopped, back_done}
use Rattle.symmetry.proofs.turn_back.Goals as goal

pub loop-u-init : goal.loop-u-init
loop-u-init c = back_start c.requires

pub turn_list_back-requires : goal.turn_list_back-requires
turn_list_back-requires c = list_back_asks c.requires.lists c.loop-u.invariant c.loop-u-test.true

pub returns-then-not-turn_list_back : goal.returns-then-not-turn_list_back
returns-then-not-turn_list_back c = back_stopped c.requires.lists c.loop-u.invariant c.turn_list_back.ensures c.if-not-turn_list_back.true

pub loop-u-preserved : goal.loop-u-preserved
loop-u-preserved c = back_more c.requires.lists c.loop-u.invariant c.turn_list_back.ensures c.if-not-turn_list_back.false

pub returns : goal.returns
returns c = back_done c.requires.lists c.loop-u.invariant c.loop-u-test.false
