-- `between::jump` meets its contract: it jumps from the place of u to that of v.
use mathlib.Core.Path.{◌∙◌}
use mathlib.Core.List.{[], ◌∷◌}
use Rattle.tables.specs.Tables.{six_in}
use Rattle.answers.proofs.Passed.{handed_on}
use Rattle.climb.proofs.Passed.{Passed, tests_passed, answered, lengths, few_parent}
use Rattle.climb.proofs.Handed.{climbs-from, lost_u, lost_v}
use Rattle.between.proofs.Answering.{jump_lost, jump_there}
use Rattle.between.proofs.jump.jump.Goals as goal
use Rattle.between.proofs.jump.jump.Goals.{In_ok-asked}

-- the tests before the query were passed
passed : (c : In_ok-asked) → Passed (six_in c.args.tables.now) (c.args.u ∷ c.args.v ∷ [])
passed c = tests_passed _ _ c.in_ok-asked.ensures

pub returns-in_err-p : goal.returns-in_err-p
returns-in_err-p c =
    handed_on _ c.from_residual-in_err-p.ensures.1
    ∙ answered (passed (goal.at.returns-in_err-p c).In_ok-asked) (jump_lost _ _ _ _ _ (lost_u _ c.in_err-p.ensures))

pub returns-in_err-q : goal.returns-in_err-q
returns-in_err-q c =
    handed_on _ c.from_residual-in_err-q.ensures.1
    ∙ answered (passed (goal.at.returns-in_err-q c).In_ok-asked) (jump_lost _ _ _ _ _ (lost_v _ c.in_err-q.ensures))

pub jump_from-requires : goal.jump_from-requires
jump_from-requires c =
    let l = lengths (passed (goal.at.jump_from-requires c).In_ok-asked) in
    record { climbs = climbs-from c.in_ok-p.ensures c.in_ok-q.ensures l.even (few_parent l.few); order = l.order }

pub returns : goal.returns
returns c = answered (passed (goal.at.returns c).In_ok-asked) (c.jump_from.ensures ∙ jump_there _ c.in_ok-p.ensures c.in_ok-q.ensures)
