use native.Mathlib.Omega.{arith}
use mathlib.Core.Path.{ap, ◌∙◌}
use Rattle.treefile.specs.File.{query_section, max_queries}
use Rattle.treefile.specs.Sections.{words_in}
use Rattle.treefile.proofs.Queries.{asked_many, asked_bad, asked_good}
use Rattle.treefile.proofs.query.judge_queries.Goals as goal
use Rattle.treefile.proofs.query.judge_queries.Goals.{then-count-gt-MAX_QUERIES-via-then-count-gt-MAX_QUERIES as by_count, then-count-gt-MAX_QUERIES-via-else-count-gt-MAX_QUERIES+then-not-good_queries as by_test}

pub good_queries-requires : goal.good_queries-requires
unfolding max_queries
good_queries-requires c = omega arith

pub returns-then-count-gt-MAX_QUERIES : goal.returns-then-count-gt-MAX_QUERIES
unfolding max_queries
returns-then-count-gt-MAX_QUERIES c =
    elim c.then-count-gt-MAX_QUERIES.branch [ by_count w ↦ asked_many (words_in c.in_ok-count.rest) c.in_ok-count.count w.if-count-gt-MAX_QUERIES.true | by_test w ↦ asked_bad (words_in c.in_ok-count.rest) c.in_ok-count.count w.if-not-good_queries.ensures ]
    ∙ ap query_section c.in_ok-count.ensures

pub returns : goal.returns
unfolding max_queries
returns c = asked_good (words_in c.in_ok-count.rest) c.in_ok-count.count c.if-count-gt-MAX_QUERIES.false c.if-not-good_queries.ensures ∙ ap query_section c.in_ok-count.ensures
