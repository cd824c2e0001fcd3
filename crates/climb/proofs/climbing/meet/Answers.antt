-- `climbing::meet` meets its contract: the climb, and the test of the last head.
use mathlib.Core.Path.{sym, ◌∙◌}
use Rattle.answers.proofs.Passed.{handed_on}
use Rattle.climb.proofs.Handed.{meets_off, meets_unhung, meets_on}
use Rattle.climb.proofs.climbing.meet.Goals as goal

pub returns-in_err-climb : goal.returns-in_err-climb
returns-in_err-climb c = rw (handed_on c.from_residual.result c.from_residual.ensures.1) (meets_off c.in_err-climb.ensures)

pub returns-then-not-hangs : goal.returns-then-not-hangs
returns-then-not-hangs c = meets_unhung c.in_ok-climb.ensures (sym c.hangs.ensures ∙ c.if-not-hangs.true)

pub returns : goal.returns
returns c = meets_on c.in_ok-climb.ensures (sym c.hangs.ensures ∙ c.if-not-hangs.false)
