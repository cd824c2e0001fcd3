use mathlib.Core.Path.{refl, sym, ◌∙◌}
use borrow.Author.Tests.{eqb-false}
use Rattle.visit.specs.Steps.{new}
use Rattle.visit.proofs.meet.Goals as goal

pub returns : goal.returns
returns c = new _ (eqb-false _ _ (sym c.marked.ensures ∙ c.if-marked.false)) c.mark.ensures refl refl
