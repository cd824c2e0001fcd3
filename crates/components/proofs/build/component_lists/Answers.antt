use mathlib.Core.Path.{refl}
use Rattle.std.proofs.Common.{rules}
use Rattle.graph.proofs.Calling.{begun}
use Rattle.components.proofs.Answering.{lists_whole}
use Rattle.components.proofs.build.component_lists.Goals as goal

pub returns : goal.returns
returns c = lists_whole (begun c.in_ok-begin.ensures refl) c.list_graph-listed.ensures.lists c.finish.ensures (search rules) (search rules) (search rules)
