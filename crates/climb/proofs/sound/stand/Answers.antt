-- `sound::stand` meets its contract: soundness is to be reached under a head that hangs.
use mathlib.Core.Path.{sym, ◌∙◌}
use Rattle.answers.proofs.Passed.{handed_on}
use Rattle.climb.proofs.Reaching.{stand_off, stand_unhung, stand_here}
use Rattle.climb.proofs.sound.stand.Goals as goal

pub returns-in_err-place : goal.returns-in_err-place
returns-in_err-place c = rw (handed_on c.from_residual.result c.from_residual.ensures.1) (stand_off c.in_err-place.ensures)

pub returns-then-not-hangs : goal.returns-then-not-hangs
returns-then-not-hangs c = stand_unhung c.in_ok-place.ensures (sym c.hangs.ensures ∙ c.if-not-hangs.true)

pub returns : goal.returns
returns c = stand_here c.in_ok-place.ensures (sym c.hangs.ensures ∙ c.if-not-hangs.false)
