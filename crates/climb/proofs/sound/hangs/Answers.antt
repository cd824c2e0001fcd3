-- `sound::hangs` meets its contract: each return says how far its tests passed.
use borrow.Author.Tests.{lt-ltb, le-ltb, eq-eqb, ne_eqb}
use Rattle.answers.specs.Limits.{no_parent}
use Rattle.climb.proofs.sound.hangs.Goals as goal

pub returns-then-up : goal.returns-then-up
unfolding no_parent
returns-then-up c = rw (eq-eqb _ _ c.if-up.true)

pub returns-then-tables-up : goal.returns-then-tables-up
unfolding no_parent
returns-then-tables-up c = rw (ne_eqb _ _ c.if-up.false, le-ltb _ _ c.if-tables-up.true)

pub returns-then-tables-up-2 : goal.returns-then-tables-up-2
unfolding no_parent
returns-then-tables-up-2 c = rw (ne_eqb _ _ c.if-up.false, lt-ltb _ _ c.if-tables-up.false, ne_eqb _ _ c.if-tables-up-2.true)

pub returns : goal.returns
unfolding no_parent
returns c = rw (ne_eqb _ _ c.if-up.false, lt-ltb _ _ c.if-tables-up.false, eq-eqb _ _ c.if-tables-up-2.false)
