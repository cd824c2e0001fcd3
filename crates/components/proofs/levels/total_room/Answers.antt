use Prim.Native.Nat.{◌+◌}
use Rattle.sums.specs.Sum.{at}
use Rattle.centroid.specs.Regions.{level_of_at}
use native.Mathlib.Omega.{arith}
use Rattle.components.proofs.Held.{sum_next}
use Rattle.components.proofs.levels.total_room.Goals as goal

pub loop-v-preserved : goal.loop-v-preserved
loop-v-preserved c = (sum_next (λ i. at c.args.work.now (level_of_at c.args.n i) + 1) c.loop-v.v c.loop-v.invariant.0, omega (arith, c.requires.low c.loop-v.v c.loop-v-test.true, Rattle.answers.proofs.Bounds.chains_small))
