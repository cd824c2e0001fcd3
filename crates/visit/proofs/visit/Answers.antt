use native.Mathlib.Omega.{arith}
use Rattle.graph.proofs.Frames.{only_refl}
use Rattle.visit.proofs.Growing.{few}
use Rattle.visit.proofs.Going.{root_seen, root_only, going_more, going_done}
use Rattle.visit.proofs.visit.Goals as goal

pub loop-i-init : goal.loop-i-init
loop-i-init c = record { seen = root_seen _ _ _ _ _ _ c.requires c.zero.ensures c.meet-count.ensures; only = only_refl _ _ _ }

pub loop-i-smaller : goal.loop-i-smaller
loop-i-smaller c = omega (arith, few c.loop-i.invariant.seen.seen)

pub loop-i-preserved : goal.loop-i-preserved
loop-i-preserved c = going_more _ _ _ _ _ _ c.requires c.meet-count.new.work (omega arith) c.loop-i.invariant c.meet_list-count.ensures

pub returns : goal.returns
returns c =
    let o = root_only _ _ _ _ _ _ c.requires c.zero.ensures c.meet-count.ensures in
    going_done _ _ _ _ _ _ c.requires _ o.same_length o c.loop-i.invariant (omega arith)
