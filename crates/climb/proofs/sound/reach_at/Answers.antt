-- `sound::reach_at` meets its contract: each way out is one of the tests, and one sum makes the last three.
use Rattle.climb.proofs.Reaching.{reach-beyond, reach_high, reach_uneven, reach_here}
use Rattle.climb.proofs.sound.reach_at.Goals as goal

pub returns-then-tables-h : goal.returns-then-tables-h
returns-then-tables-h c = reach-beyond c.requires c.if-tables-h.true

pub returns-then-d-top : goal.returns-then-d-top
returns-then-d-top c = reach_high c.requires c.if-d-top.true

pub returns-then-i-top : goal.returns-then-i-top
returns-then-i-top c = reach_uneven c.requires c.if-tables-h.false c.if-d-top.false c.if-i-top.true

pub returns : goal.returns
returns c = reach_here c.requires c.if-tables-h.false c.if-d-top.false c.if-i-top.false
