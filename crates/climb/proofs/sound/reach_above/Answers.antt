-- `sound::reach_above` meets its contract: each way out is a test of hanging, and then the parent is reached.
use Rattle.climb.proofs.Reaching.{above-beyond, above_uneven, above_late, above_reads, above_here}
use Rattle.climb.proofs.sound.reach_above.Goals as goal

pub returns-then-tables-up : goal.returns-then-tables-up
returns-then-tables-up c = above-beyond c.requires c.if-tables-up.true

pub returns-then-d-p : goal.returns-then-d-p
returns-then-d-p c = above_uneven c.requires c.if-tables-up.false c.if-d-p.true

pub returns-then-p-i : goal.returns-then-p-i
returns-then-p-i c = above_late c.requires c.if-tables-up.false c.if-d-p.false c.if-p-i.true

pub reach_at-requires : goal.reach_at-requires
reach_at-requires c = above_reads c.requires c.if-tables-up.false c.if-d-p.false c.if-p-i.false

pub returns : goal.returns
returns c = above_here c.requires c.if-tables-up.false c.if-d-p.false c.if-p-i.false c.reach_at.ensures
