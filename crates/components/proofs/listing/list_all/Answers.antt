use native.Mathlib.Omega.{arith}
use mathlib.Core.Path.{refl}
use Rattle.components.proofs.Gathering.{gather_start, gather_low, gather_asks}
use Rattle.components.proofs.Gathered.{gather_more, gather-done}
use Rattle.components.proofs.listing.list_all.Goals as goal

pub loop-c-init : goal.loop-c-init
loop-c-init c = ((refl, refl, refl), gather_start c.requires)

pub overflow_cast-starts : goal.overflow_cast-starts
overflow_cast-starts c = omega (arith, gather_low c.requires c.loop-c.invariant.1, c.requires.small)

pub list_component-requires : goal.list_component-requires
list_component-requires c = gather_asks c.requires c.loop-c.invariant.1 c.loop-c-test.true

pub loop-c-preserved : goal.loop-c-preserved
loop-c-preserved c = ((cc, cc, cc), gather_more c.requires c.loop-c.invariant.1 c.loop-c-test.true c.list_component.ensures.lists)

pub overflow_cast-starts-2 : goal.overflow_cast-starts-2
overflow_cast-starts-2 c = omega (arith, gather_low c.requires c.loop-c.invariant.1, c.requires.small)

pub returns : goal.returns
returns c = record { same = c.loop-c.invariant.0; lists = gather-done c.requires c.loop-c.invariant.1 c.loop-c-test.false }
