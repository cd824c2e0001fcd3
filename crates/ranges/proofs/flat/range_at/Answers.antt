-- `flat::range_at` meets its contract: the numbers of a slot stand within the list.
use Rattle.ranges.specs.Flat.{range_at}
use Rattle.ranges.proofs.flat.range_at.Goals as goal

pub returns : goal.returns
unfolding range_at
returns c = rw c.from.ensures
