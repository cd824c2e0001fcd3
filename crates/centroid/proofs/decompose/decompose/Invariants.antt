use Prim.Native.Nat.{◌-◌}
use Rattle.centroid.proofs.Decomposing.{Going}
use Rattle.centroid.proofs.decompose.decompose.Given as goal

abbrev pub invariant-loop-head : goal.invariant-loop-head
invariant-loop-head l = Going l.graph.offsets.now l.graph.targets.now l.n l.initial.work l.parent l.level l.work l.head l.tail

abbrev pub decreases-loop-head : goal.decreases-loop-head
decreases-loop-head l = l.n - l.head
