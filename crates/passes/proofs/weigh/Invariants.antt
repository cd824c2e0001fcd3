-- The positions from j on are handed on to their parents, and only the regions 2 and 3 have changed.
use Rattle.passes.proofs.Weights.{WeighLoop}
use Rattle.passes.proofs.weigh.Given as goal

abbrev pub invariant-loop-j : goal.invariant-loop-j
invariant-loop-j l = WeighLoop l.n l.initial.work l.work l.j
