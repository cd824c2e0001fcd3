use mathlib.Core.Path.{◌≡◌}
use mathlib.Core.List.{◌++◌}
use lib.ListN.{take, drop}
use Rattle.treefile.specs.Sections.{words_in}
use Rattle.treefile.proofs.words.Words.copy_to.Given as goal

abbrev pub invariant-loop-i : goal.invariant-loop-i
invariant-loop-i l = l.out ≡ take l.i (words_in l.self) ++ drop l.i l.initial.out
