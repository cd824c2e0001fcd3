-- `between::distance` meets its contract: it climbs to the ancestor and counts the edges on both sides of it.
use mathlib.Core.Path.{◌∙◌}
use mathlib.Core.List.{[], ◌∷◌}
use Rattle.tables.specs.Tables.{six_in}
use Rattle.answers.proofs.Passed.{handed_on}
use Rattle.climb.proofs.Passed.{Passed, tests_passed, answered, lengths, few_parent}
use Rattle.climb.proofs.Reaching.{reached_depth}
use Rattle.climb.proofs.Handed.{climbs-from, met_there, lost_u, lost_v}
use Rattle.between.proofs.Answering.{distance_lost, distance_met}
use Rattle.between.proofs.distance.distance.Goals as goal
use Rattle.between.proofs.distance.distance.Goals.{In_ok-asked, In_ok-q}

-- the tests before the query were passed
passed : (c : In_ok-asked) → Passed (six_in c.args.tables.now) (c.args.u ∷ c.args.v ∷ [])
passed c = tests_passed _ _ c.in_ok-asked.ensures

pub returns-in_err-p : goal.returns-in_err-p
returns-in_err-p c =
    handed_on _ c.from_residual-in_err-p.ensures.1
    ∙ answered (passed (goal.at.returns-in_err-p c).In_ok-asked) (distance_lost _ _ _ _ (lost_u _ c.in_err-p.ensures))

pub returns-in_err-q : goal.returns-in_err-q
returns-in_err-q c =
    handed_on _ c.from_residual-in_err-q.ensures.1
    ∙ answered (passed (goal.at.returns-in_err-q c).In_ok-asked) (distance_lost _ _ _ _ (lost_v _ c.in_err-q.ensures))

pub meet-requires : goal.meet-requires
meet-requires c =
    let l = lengths (passed (goal.at.meet-requires c).In_ok-asked) in
    climbs-from c.in_ok-p.ensures c.in_ok-q.ensures l.even (few_parent l.few)

pub returns-in_err-climb : goal.returns-in_err-climb
returns-in_err-climb c =
    handed_on _ c.from_residual-in_err-climb.ensures.1
    ∙ answered (passed (goal.at.returns-in_err-climb c).In_ok-asked) (distance_lost _ _ _ _ (met_there c.in_ok-p.ensures c.in_ok-q.ensures c.in_err-climb.ensures).is)

pub returns : goal.returns
returns c =
    answered (passed (goal.at.returns c).In_ok-asked)
    (distance_met _ _ _ _ (reached_depth c.in_ok-p.ensures) (reached_depth c.in_ok-q.ensures) (met_there c.in_ok-p.ensures c.in_ok-q.ensures c.in_ok-climb.ensures).is c.ancestor-w.ensures)
