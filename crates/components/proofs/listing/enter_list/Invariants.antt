use Rattle.components.specs.Front.{Same}
use Rattle.components.proofs.Putting.{Loop}
use Rattle.components.proofs.listing.enter_list.Given as goal

abbrev pub invariant-loop-y : goal.invariant-loop-y
invariant-loop-y l =
    Same l.initial.front l.front
    × Loop l.graph.offsets.now l.graph.targets.now l.n l.c l.i l.initial.front.count l.initial.front.vertices.now l.initial.front.distances.now l.initial.front.branches.now l.initial.work
    l.front.vertices.now l.front.distances.now l.front.branches.now l.work l.front.count l.y-index
