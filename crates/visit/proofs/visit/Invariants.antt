use Prim.Native.Nat.{◌-◌}
use Rattle.visit.proofs.Going.{Going}
use Rattle.visit.proofs.visit.Given as goal

abbrev pub invariant-loop-i : goal.invariant-loop-i
invariant-loop-i l = Going l.graph.offsets.now l.graph.targets.now l.n l.base l.root l.initial.work l.work l.i l.count

abbrev pub decreases-loop-i : goal.decreases-loop-i
decreases-loop-i l = l.n - l.i
