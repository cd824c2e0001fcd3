use Prim.Native.Nat.{◌-◌}
use Rattle.centroid.proofs.Walking.{Walking}
use Rattle.centroid.proofs.search.walk_component.Given as goal

abbrev pub invariant-loop-i : goal.invariant-loop-i
invariant-loop-i l = Walking l.graph.offsets.now l.graph.targets.now l.n l.start l.initial.work l.work l.i l.count

abbrev pub decreases-loop-i : goal.decreases-loop-i
decreases-loop-i l = l.n - l.i
