-- The loop decides of the offsets up to here that none falls.
use Prim.Native.Nat.{ℕ, ◌≤◌, ◌<◌, ◌+◌}
use Rattle.sums.specs.Sum.{at}
use Rattle.graph.specs.Judgement.{Decides}
use Rattle.graph.proofs.lists.Graph.sound_offsets.Given as goal

abbrev pub invariant-loop-u : goal.invariant-loop-u
invariant-loop-u l = Decides ((k : ℕ) → k < l.u → at l.self.offsets.now k ≤ at l.self.offsets.now (k + 1)) l.rises
