-- The turned lists before that of u are turned back.
use Rattle.sums.specs.Sum.{at}
use Rattle.symmetry.specs.Inner.{BackLoop}
use Rattle.symmetry.proofs.turn_back.Given as goal

abbrev pub invariant-loop-u : goal.invariant-loop-u
invariant-loop-u l = BackLoop l.offsets l.n l.base l.initial.work l.work l.u (at l.offsets l.u)
