use native.Mathlib.Omega.{arith}
use Rattle.centroid.proofs.Calling.{tree_asks, is_tree}
use Rattle.centroid.proofs.decompose.decompose_graph.Goals as goal

pub decompose-requires : goal.decompose-requires
decompose-requires c = tree_asks c.requires c.in_ok-judge.ensures c.vertices.ensures

pub returns : goal.returns
returns c = is_tree c.requires c.in_ok-judge.ensures c.vertices.ensures (omega arith) c.decompose.ensures
