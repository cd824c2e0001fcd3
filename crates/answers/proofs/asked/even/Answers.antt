-- `asked::even` meets its contract.
use Rattle.std.proofs.Common.{rules, nat_eq}
use Rattle.answers.proofs.Choices.{each_all}
use Rattle.answers.proofs.asked.even.Goals as goal

pub returns : goal.returns
returns c = each_all (λ l. nat_eq l c.args.n) c.args.lengths.now c.all.result (search rules) (search rules)
