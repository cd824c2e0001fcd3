use native.Mathlib.Omega.{arith}
use Rattle.graph.proofs.Rooms.{room_fits}
use Rattle.graph.proofs.lists.Graph.work_room.Goals as goal

pub overflow_add-result : goal.overflow_add-result
overflow_add-result c = omega (arith, room_fits _ _ c.requires)
