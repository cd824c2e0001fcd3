use lib.ListN.{take}
use Rattle.tables.specs.Tables.{six_in}
use Rattle.treefile.specs.Report.{query_lines}
use Rattle.treefile.specs.Writing.{Prints}
use Rattle.querylines.proofs.lines.put_queries.Given as goal

abbrev pub invariant-loop-i : goal.invariant-loop-i
invariant-loop-i l = Prints (query_lines (six_in l.tables) 1 (take l.i l.queries)) l.initial.page l.page
