-- `symmetric` meets its contract: each call's answer is what the next one asks, and the last answer is the whole one.
use Rattle.symmetry.proofs.Whole.{first_refuses, to_back, whole}
use Rattle.symmetry.proofs.symmetric.Goals as goal

pub returns-then-not-turn : goal.returns-then-not-turn
returns-then-not-turn c = first_refuses c.requires c.start_cursors.ensures c.turn.ensures c.if-not-turn.true

pub turn_back-requires : goal.turn_back-requires
turn_back-requires c = to_back c.requires c.start_cursors.ensures c.turn.ensures c.if-not-turn.false c.start_cursors-2.ensures

pub returns : goal.returns
returns c = whole c.requires c.start_cursors.ensures c.turn.ensures c.if-not-turn.false c.start_cursors-2.ensures c.turn_back.ensures
