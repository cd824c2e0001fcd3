-- `sound::reach` meets its contract: the vertex's own numbers are tested first, then its head is read.
use Rattle.climb.proofs.Reaching.{reach_deep, reach_far}
use Rattle.climb.proofs.sound.reach.Goals as goal

pub returns-then-tables-d : goal.returns-then-tables-d
returns-then-tables-d c = reach_deep c.requires c.if-tables-d.true

pub returns-then-tables-i : goal.returns-then-tables-i
returns-then-tables-i c = reach_far c.requires c.if-tables-i.true
