-- `ancestors::ancestor_in` meets its contract: the lookup from the vertex that was reached.
use mathlib.Core.Path.{◌∙◌}
use Rattle.answers.proofs.Passed.{handed_on}
use Rattle.queries.proofs.Rising.{rise_reached, rise_off}
use Rattle.queries.proofs.ancestors.ancestor_in.Goals as goal

pub returns-in_err-p : goal.returns-in_err-p
returns-in_err-p c = handed_on c.from_residual.result c.from_residual.ensures.1 ∙ rise_off _ c.in_err-p.ensures

pub returns : goal.returns
returns c = c.ancestor_from.ensures ∙ rise_reached _ c.in_ok-p.ensures
