use Prim.Native.Nat.{◌+◌, ◌-◌}
use Rattle.components.specs.Front.{Same}
use Rattle.components.proofs.Walking.{Walking}
use Rattle.components.proofs.listing.list_component.Given as goal

abbrev pub invariant-loop-i : goal.invariant-loop-i
invariant-loop-i l =
    Same l.initial.front l.front
    × Walking l.graph.offsets.now l.graph.targets.now l.n l.c l.from l.initial.front.vertices.now l.initial.front.distances.now l.initial.front.branches.now l.initial.work
    l.front.vertices.now l.front.distances.now l.front.branches.now l.work l.i l.front.count

abbrev pub decreases-loop-i : goal.decreases-loop-i
decreases-loop-i l = l.from + l.n - l.i
