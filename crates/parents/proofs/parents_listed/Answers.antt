use mathlib.Core.Path.{sym, subst}
use Rattle.paths.specs.Walk.{In}
use Rattle.graph.proofs.Judging.{decides_no}
use Rattle.parents.proofs.Listing.{search_decides, listed_more}
use Rattle.parents.proofs.parents_listed.Goals as goal

pub returns-then-not-stands : goal.returns-then-not-stands
returns-then-not-stands c =
    let d = search_decides _ _ _ c.stands.ensures in
    decides_no (λ l. d.wrong c.if-not-stands.true (subst (In _) (sym c.neighbours.ensures) (l c.loop-j.j c.loop-j.auto.j c.loop-j-test.true)))

pub loop-j-preserved : goal.loop-j-preserved
loop-j-preserved c =
    let d = search_decides _ _ _ c.stands.ensures in
    listed_more _ _ c.args.n c.args.work.now _ c.loop-j.invariant (subst (In _) c.neighbours.ensures (d.right c.if-not-stands.false))
