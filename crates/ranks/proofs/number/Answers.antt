use Rattle.std.proofs.Common.{rules}
use Rattle.ranks.proofs.Numbers.{number_asks, number_step}
use Rattle.ranks.proofs.number.Goals as goal

pub number_one-requires : goal.number_one-requires
number_one-requires c = number_asks c.requires c.place.ensures c.loop-j.invariant c.loop-j-test.true (search rules)

pub loop-j-preserved : goal.loop-j-preserved
loop-j-preserved c = number_step c.requires c.place.ensures c.loop-j.invariant c.loop-j-test.true c.number_one.ensures
