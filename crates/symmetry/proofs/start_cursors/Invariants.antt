-- The cursors below u are set.
use Rattle.symmetry.specs.Inner.{Starting}
use Rattle.symmetry.proofs.start_cursors.Given as goal

abbrev pub invariant-loop-u : goal.invariant-loop-u
invariant-loop-u l = Starting l.offsets l.n l.base l.initial.work l.work l.u
