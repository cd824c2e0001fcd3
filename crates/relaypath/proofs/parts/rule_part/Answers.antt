-- `parts::rule_part` meets its contract: the range names no part, or the direction none, or the part stands where it says.
use native.Mathlib.Omega.{arith}
use mathlib.Core.Path.{sym, ◌∙◌}
use lib.ListN.{length}
use Rattle.ranges.proofs.Parted.{named_means}
use Rattle.relaypath.proofs.Placed.{named_forward, named_reversed, named_none, direction_none}
use Rattle.relaypath.proofs.parts.rule_part.Goals as goal

pub returns-then-not-names_part : goal.returns-then-not-names_part
returns-then-not-names_part c =
    named_none c.args.first.now c.args.second.now c.args.start c.args.end c.args.direction (sym c.names_part.ensures ∙ c.if-not-names_part.true)

pub returns-then-direction-gt1 : goal.returns-then-direction-gt1
returns-then-direction-gt1 c =
    direction_none c.args.first.now c.args.second.now c.args.start c.args.end c.args.direction c.if-direction-gt1.true

pub overflow_sub-result : goal.overflow_sub-result
overflow_sub-result c =
    let n = named_means (length c.args.first.now) (length c.args.second.now) c.args.start c.args.end (sym c.names_part.ensures ∙ c.if-not-names_part.false) in let a = n.some in let b = n.within in omega arith

pub returns-then-direction-eq0 : goal.returns-then-direction-eq0
returns-then-direction-eq0 c =
    named_forward c.args.first.now c.args.second.now c.args.start c.args.end c.args.direction (sym c.names_part.ensures ∙ c.if-not-names_part.false) c.if-direction-eq0.true

pub overflow_sub-place : goal.overflow_sub-place
overflow_sub-place c =
    let n = named_means (length c.args.first.now) (length c.args.second.now) c.args.start c.args.end (sym c.names_part.ensures ∙ c.if-not-names_part.false) in let a = n.some in let b = n.within in omega arith

pub overflow_sub-result-2 : goal.overflow_sub-result-2
overflow_sub-result-2 c =
    let n = named_means (length c.args.first.now) (length c.args.second.now) c.args.start c.args.end (sym c.names_part.ensures ∙ c.if-not-names_part.false) in let a = n.some in let b = n.within in omega arith

pub returns : goal.returns
returns c =
    named_reversed c.args.first.now c.args.second.now c.args.start c.args.end c.args.direction (sym c.names_part.ensures ∙ c.if-not-names_part.false) (omega arith)
