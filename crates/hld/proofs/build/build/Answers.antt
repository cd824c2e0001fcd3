use Rattle.hld.proofs.Whole.{to_weigh, to_number, to_scatter, build-done}
use Rattle.hld.proofs.build.build.Goals as goal

pub weigh-requires : goal.weigh-requires
weigh-requires c = to_weigh c.requires c.in_ok-judge.ensures c.vertices-n.ensures

pub number-requires : goal.number-requires
number-requires c = to_number c.requires c.in_ok-judge.ensures c.vertices-n.ensures c.weigh.ensures

pub scatter-requires : goal.scatter-requires
scatter-requires c = to_scatter c.requires c.in_ok-judge.ensures c.vertices-n.ensures c.weigh.ensures c.number.ensures

pub returns-clause-built : goal.returns-clause-built
returns-clause-built c = build-done c.requires c.in_ok-judge.ensures c.vertices-n.ensures c.weigh.ensures c.number.ensures c.scatter.ensures.filled
