-- The lists before that of u are turned.
use Rattle.sums.specs.Sum.{at}
use Rattle.symmetry.specs.Inner.{TurnLoop}
use Rattle.symmetry.proofs.turn.Given as goal

abbrev pub invariant-loop-u : goal.invariant-loop-u
invariant-loop-u l = TurnLoop l.graph.offsets.now l.graph.targets.now l.n l.base l.initial.work l.work l.u (at l.graph.offsets.now l.u)
