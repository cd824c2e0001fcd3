use Rattle.passes.proofs.Weights.{weigh_start, weigh_hands, weigh_step, weigh-done}
use Rattle.passes.proofs.weigh.Goals as goal

pub loop-j-init : goal.loop-j-init
loop-j-init c = weigh_start c.requires c.start_weights.ensures

pub weigh_one-requires : goal.weigh_one-requires
weigh_one-requires c = weigh_hands c.requires c.start_weights.ensures c.loop-j.invariant c.loop-j-test.true

pub loop-j-preserved : goal.loop-j-preserved
loop-j-preserved c = weigh_step c.requires c.start_weights.ensures c.loop-j.invariant c.loop-j-test.true c.weigh_one.ensures

pub returns : goal.returns
returns c = weigh-done c.requires c.start_weights.ensures c.loop-j.invariant c.loop-j-test.false
