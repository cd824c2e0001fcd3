-- `asked::below` meets its contract.
use Rattle.std.proofs.Common.{rules, nat_lt}
use Rattle.answers.proofs.Choices.{each_all}
use Rattle.answers.proofs.asked.below.Goals as goal

pub returns : goal.returns
returns c = each_all (λ l. nat_lt l c.args.n) c.args.vertices.now c.all.result (search rules) (search rules)
