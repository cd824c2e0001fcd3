use Prim.Native.Nat.{◌+◌, ◌*◌, ◌≤◌}
use mathlib.Core.Path.{◌≡◌}
use Rattle.sums.specs.Sum.{at, sum}
use Rattle.centroid.specs.Regions.{level_of_at}
use Rattle.components.proofs.levels.total_room.Given as goal

abbrev pub invariant-loop-v : goal.invariant-loop-v
invariant-loop-v l = (l.total ≡ sum l.v (λ i. at l.work (level_of_at l.n i) + 1)) × (l.total ≤ 32 * l.v)
