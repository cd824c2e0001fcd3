use Rattle.centroid.proofs.Adding.{Loop}
use Rattle.centroid.proofs.decompose.add_starts.Given as goal

abbrev pub invariant-loop-x : goal.invariant-loop-x
invariant-loop-x l = Loop l.graph.offsets.now l.graph.targets.now l.n l.c l.level l.tail l.initial.work l.work l.x-index l.count
