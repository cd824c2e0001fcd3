use Rattle.visit.proofs.Looking.{Looking}
use Rattle.visit.proofs.meet_list.Given as goal

abbrev pub invariant-loop-x : goal.invariant-loop-x
invariant-loop-x l = Looking l.graph.offsets.now l.graph.targets.now l.n l.base l.i l.initial.work l.work l.x-index l.count
