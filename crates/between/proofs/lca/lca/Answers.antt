-- `between::lca` meets its contract: each way out is a test that fails, and else the last deepest of where two of the three meet is chosen.
use mathlib.Core.Path.{refl, ◌∙◌}
use mathlib.Core.List.{[], ◌∷◌}
use Rattle.tables.specs.Tables.{six_in}
use Rattle.answers.proofs.Passed.{handed_on}
use Rattle.climb.proofs.Passed.{Passed, tests_passed, answered, lengths, few_parent}
use Rattle.climb.proofs.Handed.{climbs-from, lost_u, lost_v}
use Rattle.between.proofs.Answering.{lca_off_r, lca_lost_1, lca_lost_2, lca_lost_3, lca_met, ended_there, end_lost}
use Rattle.between.proofs.lca.lca.Goals as goal
use Rattle.between.proofs.lca.lca.Goals.{In_ok-asked}

-- the tests before the query were passed
passed : (c : In_ok-asked) → Passed (six_in c.args.tables.now) (c.args.r ∷ c.args.u ∷ c.args.v ∷ [])
passed c = tests_passed _ _ c.in_ok-asked.ensures

pub returns-in_err-s : goal.returns-in_err-s
returns-in_err-s c =
    handed_on _ c.from_residual-in_err-s.ensures.1 ∙ answered (passed (goal.at.returns-in_err-s c).In_ok-asked) (lca_off_r _ _ c.in_err-s.ensures)

pub returns-in_err-p : goal.returns-in_err-p
returns-in_err-p c =
    handed_on _ c.from_residual-in_err-p.ensures.1
    ∙ answered (passed (goal.at.returns-in_err-p c).In_ok-asked) (lca_lost_1 _ _ _ _ _ (end_lost (lost_u _ c.in_err-p.ensures)))

pub returns-in_err-q : goal.returns-in_err-q
returns-in_err-q c =
    handed_on _ c.from_residual-in_err-q.ensures.1
    ∙ answered (passed (goal.at.returns-in_err-q c).In_ok-asked) (lca_lost_1 _ _ _ _ _ (end_lost (lost_v _ c.in_err-q.ensures)))

pub meeting-requires : goal.meeting-requires
meeting-requires c =
    let l = lengths (passed (goal.at.meeting-requires c).In_ok-asked) in
    climbs-from c.in_ok-p.ensures c.in_ok-q.ensures l.even (few_parent l.few)

pub returns-in_err-a : goal.returns-in_err-a
returns-in_err-a c =
    handed_on _ c.from_residual-in_err-a.ensures.1
    ∙ answered (passed (goal.at.returns-in_err-a c).In_ok-asked) (lca_lost_1 _ _ _ _ _ (ended_there c.in_ok-p.ensures c.in_ok-q.ensures c.in_err-a.ensures))

pub meeting-requires-2 : goal.meeting-requires-2
meeting-requires-2 c =
    let l = lengths (passed (goal.at.meeting-requires-2 c).In_ok-asked) in
    climbs-from c.in_ok-s.ensures c.in_ok-p.ensures l.even (few_parent l.few)

pub returns-in_err-b : goal.returns-in_err-b
returns-in_err-b c =
    handed_on _ c.from_residual-in_err-b.ensures.1
    ∙ answered (passed (goal.at.returns-in_err-b c).In_ok-asked)
    (lca_lost_2 _ _ _ _ _ (ended_there c.in_ok-p.ensures c.in_ok-q.ensures c.in_ok-a.ensures) (ended_there c.in_ok-s.ensures c.in_ok-p.ensures c.in_err-b.ensures))

pub meeting-requires-3 : goal.meeting-requires-3
meeting-requires-3 c =
    let l = lengths (passed (goal.at.meeting-requires-3 c).In_ok-asked) in
    climbs-from c.in_ok-s.ensures c.in_ok-q.ensures l.even (few_parent l.few)

pub returns-in_err-c : goal.returns-in_err-c
returns-in_err-c c =
    handed_on _ c.from_residual-in_err-c.ensures.1
    ∙ answered (passed (goal.at.returns-in_err-c c).In_ok-asked)
    (lca_lost_3 _ _ _ _ _ (ended_there c.in_ok-p.ensures c.in_ok-q.ensures c.in_ok-a.ensures) (ended_there c.in_ok-s.ensures c.in_ok-p.ensures c.in_ok-b.ensures)
    (ended_there c.in_ok-s.ensures c.in_ok-q.ensures c.in_err-c.ensures))

pub returns : goal.returns
returns c =
    answered (passed (goal.at.returns c).In_ok-asked)
    (lca_met _ _ _ _ _ (ended_there c.in_ok-p.ensures c.in_ok-q.ensures c.in_ok-a.ensures) (ended_there c.in_ok-s.ensures c.in_ok-p.ensures c.in_ok-b.ensures)
    (ended_there c.in_ok-s.ensures c.in_ok-q.ensures c.in_ok-c.ensures) refl (c.deepest.ensures _ _ _ refl))
