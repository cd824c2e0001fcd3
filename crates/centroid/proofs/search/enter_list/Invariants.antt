use Rattle.centroid.proofs.Entering.{Entering}
use Rattle.centroid.proofs.search.enter_list.Given as goal

abbrev pub invariant-loop-x : goal.invariant-loop-x
invariant-loop-x l = Entering l.graph.offsets.now l.graph.targets.now l.n l.i l.initial.work l.work l.x-index l.count
