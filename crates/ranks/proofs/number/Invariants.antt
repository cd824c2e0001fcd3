-- The positions below j are ranked, and only the regions from 4 on have changed.
use Rattle.ranks.proofs.Numbers.{NumberLoop}
use Rattle.ranks.proofs.number.Given as goal

abbrev pub invariant-loop-j : goal.invariant-loop-j
invariant-loop-j l = NumberLoop l.n l.initial.work l.work l.j
