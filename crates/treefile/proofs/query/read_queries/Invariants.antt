use mathlib.Core.Path.{◌≡◌}
use mathlib.Core.List.{◌++◌}
use lib.ListN.{take, drop}
use Rattle.treefile.specs.Sections.{words_in, queries_from}
use Rattle.treefile.proofs.query.read_queries.Given as goal

abbrev pub invariant-loop-i : goal.invariant-loop-i
invariant-loop-i l = l.out ≡ take l.i (queries_from (words_in l.words)) ++ drop l.i l.initial.out
