use borrow.Author.Tests.{le-leb, lt-leb}
use Rattle.climb.proofs.places.Climb.ancestor.Goals as goal

pub returns-then-u-v : goal.returns-then-u-v
returns-then-u-v c = rw (le-leb _ _ c.if-u-v.true)

pub returns-else-u-v : goal.returns-else-u-v
returns-else-u-v c = rw (lt-leb _ _ c.if-u-v.false)
