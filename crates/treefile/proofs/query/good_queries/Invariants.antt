use Rattle.treefile.specs.Sections.{words_in}
use Rattle.treefile.proofs.Queries.{Judged}
use Rattle.treefile.proofs.query.good_queries.Given as goal

abbrev pub invariant-loop-i : goal.invariant-loop-i
invariant-loop-i l = Judged (words_in l.words) l.count l.i
