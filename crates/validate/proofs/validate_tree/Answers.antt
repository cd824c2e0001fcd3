use mathlib.Core.Path.{refl}
use Rattle.graph.proofs.Calling.{begun, whole_call}
use Rattle.validate.proofs.Steps.{judged-part}
use Rattle.validate.proofs.validate_tree.Goals as goal

pub returns : goal.returns
returns c = let b = begun c.in_ok-begin.ensures refl in whole_call b.sized b.room b (judged-part c.judge-judged.ensures) c.finish.ensures
