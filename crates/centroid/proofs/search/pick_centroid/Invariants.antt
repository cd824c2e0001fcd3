use Rattle.centroid.proofs.Handing.{Handing}
use Rattle.centroid.proofs.search.pick_centroid.Given as goal

abbrev pub invariant-loop-left : goal.invariant-loop-left
invariant-loop-left l = Handing l.n l.total l.initial.work l.work l.left
