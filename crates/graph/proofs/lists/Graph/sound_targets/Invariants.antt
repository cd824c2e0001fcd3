-- The loop decides of the targets up to here that each is a vertex.
use Prim.Native.Nat.{ℕ, ◌<◌}
use Rattle.sums.specs.Sum.{at}
use Rattle.graph.specs.Judgement.{Decides}
use Rattle.graph.specs.Lent.{vertices}
use Rattle.graph.proofs.lists.Graph.sound_targets.Given as goal

abbrev pub invariant-loop-target : goal.invariant-loop-target
invariant-loop-target l = Decides ((k : ℕ) → k < l.target-index → at l.target-items k < vertices l.self.offsets.now) l.below
