use native.Mathlib.Omega.{arith}
use mathlib.Core.Path.{refl, sym}
use Rattle.graph.proofs.Neighbours.{list_out, got_list}
use Rattle.graph.proofs.lists.Graph.neighbours.Goals as goal

pub returns-then-vertices-u : goal.returns-then-vertices-u
returns-then-vertices-u c = sym (list_out _ _ _ (omega arith))

pub returns : goal.returns
returns c = rw c.unwrap_or.ensures (got_list _ _ _ _ _ refl (omega arith) c.get.ensures.lookup.0)
