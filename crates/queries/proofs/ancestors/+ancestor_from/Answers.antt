-- `ancestors::ancestor_from` meets its contract: each way out is one chain of the lookup.
use native.Mathlib.Omega.{arith}
use mathlib.Core.Path.{sym, ◌∙◌}
use Rattle.answers.specs.Limits.{no_parent}
use Rattle.answers.proofs.Passed.{handed_on}
use Rattle.climb.proofs.Reaching.{above_seat}
use Rattle.queries.proofs.Rising.{rise_here, rise_too_far, rise_high, rise_worn, rise_unsound, rise_on}
use Rattle.queries.proofs.ancestors.+ancestor_from.Goals as goal

pub returns-then-k-steps : goal.returns-then-k-steps
returns-then-k-steps t c = c.entry_at.ensures ∙ rise_here _ _ _ _ (sym c.hangs.ensures ∙ c.if-not-hangs.false) c.if-k-steps.true

pub returns-then-p-ne0 : goal.returns-then-p-ne0
unfolding no_parent
returns-then-p-ne0 t c = rise_high _ _ _ c.if-k-steps.false c.if-p.true _ c.if-p-ne0.true

pub returns-then-p : goal.returns-then-p
unfolding no_parent
returns-then-p t c = rise_too_far _ _ _ c.if-k-steps.false c.if-p.true _ c.if-p-ne0.false

pub returns-then-room-lt2 : goal.returns-then-room-lt2
unfolding no_parent
returns-then-room-lt2 t c = rise_worn _ _ _ c.if-k-steps.false c.if-p.false _ c.if-room-lt2.true

pub returns-in_err-above : goal.returns-in_err-above
unfolding no_parent
returns-in_err-above t c =
    handed_on c.from_residual.result c.from_residual.ensures.1
    ∙ rise_unsound _ _ _ c.if-k-steps.false c.if-p.false c.requires.seat _ c.if-room-lt2.false c.in_err-above.ensures

pub ancestor_from-requires : goal.ancestor_from-requires
ancestor_from-requires t c =
    (omega (arith, c.if-k-steps.false, c.decreases), record { even = c.requires.even; order = c.requires.order; seat = above_seat _ _ c.requires.seat c.in_ok-above.ensures })

pub returns : goal.returns
unfolding no_parent
returns t c = c.ancestor_from.ensures ∙ rise_on _ _ _ c.if-k-steps.false c.if-p.false c.requires.seat _ c.if-room-lt2.false c.in_ok-above.ensures
