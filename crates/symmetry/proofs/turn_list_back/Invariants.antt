-- The entries before e are turned back, and only the cursors have changed.
use Rattle.symmetry.specs.Inner.{BackLoop}
use Rattle.symmetry.proofs.turn_list_back.Given as goal

abbrev pub invariant-loop-e : goal.invariant-loop-e
invariant-loop-e l = BackLoop l.offsets l.n l.base l.initial.work l.work l.u l.e
