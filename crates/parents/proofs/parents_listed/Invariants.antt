use Prim.Native.Nat.{ℕ, ◌<◌}
use Rattle.parents.proofs.Listing.{Listed}
use Rattle.parents.proofs.parents_listed.Given as goal

abbrev pub invariant-loop-j : goal.invariant-loop-j
invariant-loop-j l = (k : ℕ) → 0 < k → k < l.j → Listed l.graph.offsets.now l.graph.targets.now l.n l.work k
