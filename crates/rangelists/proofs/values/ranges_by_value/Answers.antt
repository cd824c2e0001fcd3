-- `values::ranges_by_value` meets its contract: the array has room for every path.
use Rattle.answers.specs.Limits.{most_chains}
use Rattle.answers.proofs.Passed.{handed_on}
use Rattle.rangelists.proofs.Valued.{valued, value_refused}
use Rattle.rangelists.proofs.values.ranges_by_value.Goals as goal

pub returns-in_err-count : goal.returns-in_err-count
unfolding most_chains
returns-in_err-count c =
    rw (handed_on c.from_residual.result c.from_residual.ensures.1) (value_refused c.args.kind _ _ _ _ c.in_err-count.ensures)

pub returns : goal.returns
unfolding most_chains
returns c = valued c.args.kind _ _ _ _ _ c.in_ok-count.ensures
