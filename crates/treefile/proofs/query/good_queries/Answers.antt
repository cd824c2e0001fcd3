use native.Mathlib.Omega.{arith}
use mathlib.Core.Path.{sym, ap, ◌∙◌}
use Rattle.treefile.specs.File.{query?, max_queries}
use Rattle.treefile.proofs.Queries.{judged_next, judged_bad, all-length}
use Rattle.treefile.proofs.query.good_queries.Goals as goal

pub overflow_mul-count : goal.overflow_mul-count
unfolding max_queries
overflow_mul-count c = omega arith

pub returns-then-count : goal.returns-then-count
returns-then-count c = sym (all-length c.args.count _ (λ e. c.if-count.true (omega arith)))

pub returns-then-not-is_good : goal.returns-then-not-is_good
returns-then-not-is_good c = sym (judged_bad c.loop-i-test.true (sym (c.if-not-is_good.ensures ∙ ap query? c.query_at.ensures)) c.loop-i.invariant)

pub loop-i-preserved : goal.loop-i-preserved
loop-i-preserved c = judged_next c.loop-i-test.true (sym (c.if-not-is_good.ensures ∙ ap query? c.query_at.ensures)) c.loop-i.invariant
