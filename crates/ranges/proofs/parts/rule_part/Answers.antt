-- `parts::rule_part` meets its contract: a range that names no part gives the empty one, and the direction chooses the store.
use mathlib.Core.Path.{sym, ◌∙◌}
use Rattle.ranges.proofs.Parted.{part_of_none, part_forward, part_reversed}
use Rattle.ranges.proofs.parts.rule_part.Goals as goal

pub returns-then-not-names_part : goal.returns-then-not-names_part
returns-then-not-names_part c = sym (part_of_none _ _ _ _ _ (sym c.names_part.ensures ∙ c.if-not-names_part.true))

pub returns-in-Forward : goal.returns-in-Forward
returns-in-Forward c = part_forward _ _ _ _ _ (sym c.names_part.ensures ∙ c.if-not-names_part.false) c.in-Forward.is

pub returns-in-Reversed : goal.returns-in-Reversed
returns-in-Reversed c = part_reversed _ _ _ _ _ (sym c.names_part.ensures ∙ c.if-not-names_part.false) c.in-Reversed.is
