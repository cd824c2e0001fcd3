use native.Mathlib.Omega.{arith}
use Rattle.symmetry.proofs.LoopBack.{back_room, back_step, back_refused, list_back, BackRoom}
use Rattle.symmetry.proofs.turn_list_back.Goals as goal
use Rattle.symmetry.proofs.turn_list_back.Goals.{In-loop-e, then-offsets-x-via-then-offsets-x, then-offsets-x-via-else-offsets-x+then-work-base}

-- what is known of the entry in hand
room : (c : In-loop-e) → BackRoom c.args.offsets.now c.args.n c.args.base c.args.work.now c.loop-e.work c.loop-e.e
room c = back_room c.requires.lists c.loop-e.invariant c.requires.vertex c.loop-e-test.true

pub bounds-work-base : goal.bounds-work-base
bounds-work-base c = omega (arith, room (goal.at.bounds-work-base c).In-loop-e)

pub bounds-work-base-else-offsets-x : goal.bounds-work-base-else-offsets-x
bounds-work-base-else-offsets-x c = omega (arith, room (goal.at.bounds-work-base-else-offsets-x c).In-loop-e)

pub returns-then-offsets-x : goal.returns-then-offsets-x
returns-then-offsets-x c =
    back_refused c.requires.lists c.loop-e.invariant c.requires.vertex c.loop-e-test.true (elim c.then-offsets-x.branch [
      | then-offsets-x-via-then-offsets-x w ↦ λ z. omega arith
      | then-offsets-x-via-else-offsets-x+then-work-base w ↦ λ z. w.if-work-base.true z.1
    ])

pub loop-e-preserved : goal.loop-e-preserved
loop-e-preserved c = back_step c.requires.lists c.loop-e.invariant c.requires.vertex c.loop-e-test.true c.if-offsets-x.false c.if-work-base.false

pub returns : goal.returns
returns c = list_back c.requires.lists c.loop-e.invariant c.requires.vertex c.loop-e-test.false c.loop-e.auto.e-end
