use native.Mathlib.Omega.{arith}
use mathlib.Core.Path.{refl}
use Rattle.components.proofs.Answering.{tree_asks, total_asks, not_fitting, list_asks, listed}
use Rattle.components.proofs.build.list_graph.Goals as goal

pub find_levels-requires : goal.find_levels-requires
find_levels-requires c = rw c.vertices-n.ensures (tree_asks c.requires c.in_ok-judge.ensures)

pub total_room-requires : goal.total_room-requires
total_room-requires c = rw c.vertices-n.ensures (total_asks c.requires c.in_ok-judge.ensures (rw c.vertices-n.ensures at c.find_levels.ensures))

pub returns-then-not-fitting : goal.returns-then-not-fitting
returns-then-not-fitting c =
    record {
      same = (refl, refl, refl);
      lists = not_fitting c.requires c.in_ok-judge.ensures (rw c.vertices-n.ensures at c.find_levels.ensures) (omega (arith, c.vertices-n.ensures))
          (rw c.vertices-n.ensures at c.total_room.ensures) (c.fitting.ensures.wrong c.if-not-fitting.true);
    }

pub list_all-requires : goal.list_all-requires
list_all-requires c =
    rw c.vertices-n.ensures
    (list_asks c.requires c.in_ok-judge.ensures (rw c.vertices-n.ensures at c.find_levels.ensures) (omega (arith, c.vertices-n.ensures))
    (rw c.vertices-n.ensures at c.total_room.ensures) (c.fitting.ensures.right c.if-not-fitting.false))

pub returns : goal.returns
returns c =
    record {
      same = c.list_all.ensures.same;
      lists = listed c.requires c.in_ok-judge.ensures (rw c.vertices-n.ensures at c.find_levels.ensures) (omega (arith, c.vertices-n.ensures))
          (rw c.vertices-n.ensures at c.total_room.ensures) (c.fitting.ensures.right c.if-not-fitting.false) (rw c.vertices-n.ensures at c.list_all.ensures.lists);
    }
