use Rattle.components.specs.Front.{Same}
use Rattle.components.proofs.Gathering.{Gathering}
use Rattle.components.proofs.listing.list_all.Given as goal

abbrev pub invariant-loop-c : goal.invariant-loop-c
invariant-loop-c l =
    Same l.initial.front l.front
    × Gathering l.graph.offsets.now l.graph.targets.now l.n l.initial.front.vertices.now l.initial.front.distances.now l.initial.front.branches.now l.initial.starts l.initial.work
    l.front.vertices.now l.front.distances.now l.front.branches.now l.starts l.work l.c l.front.count
