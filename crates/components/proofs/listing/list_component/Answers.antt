use native.Mathlib.Omega.{arith}
use mathlib.Core.Path.{refl}
use Rattle.components.proofs.Walking.{walk_place, walk_few, walk_asks}
use Rattle.components.proofs.Walked.{walk_begun, walk_start, walk_more, walk-done}
use Rattle.components.proofs.listing.list_component.Goals as goal

pub offset_bounds-front-from : goal.offset_bounds-front-from
offset_bounds-front-from c = omega (arith, walk_place c.requires)

pub bounds-front-from : goal.bounds-front-from
bounds-front-from c = omega (arith, walk_place c.requires)

pub offset_bounds-front-from-2 : goal.offset_bounds-front-from-2
offset_bounds-front-from-2 c = omega (arith, walk_place c.requires)

pub bounds-front-from-2 : goal.bounds-front-from-2
bounds-front-from-2 c = omega (arith, walk_place c.requires)

pub offset_bounds-front-from-3 : goal.offset_bounds-front-from-3
offset_bounds-front-from-3 c = omega (arith, walk_place c.requires)

pub bounds-front-from-3 : goal.bounds-front-from-3
bounds-front-from-3 c = omega (arith, walk_place c.requires)

pub overflow_add-front : goal.overflow_add-front
overflow_add-front c = omega (arith, walk_place c.requires)

pub loop-i-init : goal.loop-i-init
loop-i-init c = ((refl, refl, refl), walk_start c.requires)

pub enter_list-requires : goal.enter_list-requires
enter_list-requires c = walk_asks (walk_begun c.requires) c.loop-i.invariant.1 c.loop-i-test.true

pub loop-i-smaller : goal.loop-i-smaller
loop-i-smaller c = omega (arith, walk_few (walk_begun c.requires) c.loop-i.invariant.1)

pub loop-i-preserved : goal.loop-i-preserved
loop-i-preserved c = ((cc, cc, cc), walk_more (walk_begun c.requires) c.loop-i.invariant.1 c.loop-i-test.true c.enter_list.ensures.lists)

pub returns : goal.returns
returns c = record { same = c.loop-i.invariant.0; lists = walk-done c.requires c.loop-i.invariant.1 c.loop-i-test.false }
