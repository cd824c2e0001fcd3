use Rattle.ranges.specs.Flat.{ranges_in}
use Rattle.treefile.specs.Report.{ranges_text}
use Rattle.treefile.specs.Writing.{Prints}
use Rattle.treefile.proofs.page.Page.put_ranges.Given as goal

abbrev pub invariant-loop-i : goal.invariant-loop-i
invariant-loop-i l = Prints (ranges_text (ranges_in l.i l.flat)) l.initial.self l.self
