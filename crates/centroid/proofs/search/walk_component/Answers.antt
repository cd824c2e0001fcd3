use native.Mathlib.Omega.{arith}
use Rattle.centroid.proofs.Walking.{walking_start, walking_few, walking_asks, walking_more, walking-done}
use Rattle.centroid.proofs.search.walk_component.Goals as goal

pub loop-i-init : goal.loop-i-init
loop-i-init c = walking_start _ _ _ _ _ c.requires

pub enter_list-count-requires : goal.enter_list-count-requires
enter_list-count-requires c = walking_asks _ _ _ _ _ c.requires c.loop-i.invariant c.loop-i-test.true

pub loop-i-smaller : goal.loop-i-smaller
loop-i-smaller c = omega (arith, (walking_few _ _ _ _ _ c.requires c.loop-i.invariant).1)

pub loop-i-preserved : goal.loop-i-preserved
loop-i-preserved c = walking_more _ _ _ _ _ c.requires c.loop-i.invariant c.enter_list-count.ensures

pub returns : goal.returns
returns c = walking-done _ _ _ _ _ c.requires c.loop-i.invariant (omega (arith, (walking_few _ _ _ _ _ c.requires c.loop-i.invariant).0))
