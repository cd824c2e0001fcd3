-- The entries before e are turned, and only the cursors and the turned lists have changed.
use Rattle.symmetry.specs.Inner.{TurnLoop}
use Rattle.symmetry.proofs.turn_list.Given as goal

abbrev pub invariant-loop-e : goal.invariant-loop-e
invariant-loop-e l = TurnLoop l.graph.offsets.now l.graph.targets.now l.n l.base l.initial.work l.work l.u l.e
