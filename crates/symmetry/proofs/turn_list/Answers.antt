use native.Mathlib.Omega.{arith}
use Rattle.symmetry.proofs.Loops.{turn_room, turn_step, turn_refused, list_turned, TurnRoom}
use Rattle.symmetry.proofs.turn_list.Goals as goal
use Rattle.symmetry.proofs.turn_list.Goals.{In-loop-e}

-- what is known of the entry in hand
room : (c : In-loop-e) → TurnRoom c.args.graph.now.offsets.now c.args.graph.now.targets.now c.args.n c.args.work.now c.loop-e.work c.loop-e.e
room c = turn_room c.requires.asks c.loop-e.invariant c.requires.vertex c.loop-e-test.true

pub bounds-graph-e : goal.bounds-graph-e
bounds-graph-e c = (room (goal.at.bounds-graph-e c).In-loop-e).entry

pub bounds-work-base : goal.bounds-work-base
bounds-work-base c = omega (arith, room (goal.at.bounds-work-base c).In-loop-e)

pub bounds-graph-x : goal.bounds-graph-x
bounds-graph-x c = omega (arith, room (goal.at.bounds-graph-x c).In-loop-e)

pub returns-then-graph-x : goal.returns-then-graph-x
returns-then-graph-x c = turn_refused c.requires.asks c.loop-e.invariant c.requires.vertex c.loop-e-test.true c.if-graph-x.true

pub bounds-work-base-in-loop-e : goal.bounds-work-base-in-loop-e
bounds-work-base-in-loop-e c = omega (arith, room (goal.at.bounds-work-base-in-loop-e c).In-loop-e)

pub loop-e-preserved : goal.loop-e-preserved
loop-e-preserved c = turn_step c.requires.asks c.loop-e.invariant c.requires.vertex c.loop-e-test.true c.if-graph-x.false

pub returns : goal.returns
returns c = list_turned c.requires.asks c.loop-e.invariant c.requires.vertex c.loop-e-test.false c.loop-e.auto.e-end
