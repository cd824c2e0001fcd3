use Prim.Native.Nat.{ℕ}
use native.Mathlib.Omega.{arith}
use mathlib.Core.Path.{◌≡◌, ap}
use Rattle.ranges.specs.Flat.{ranges_in}
use Rattle.treefile.specs.Report.{ranges_text}
use Rattle.treefile.proofs.Writing.{prints_as}
use Rattle.treefile.proofs.Flat.{ranges_room, ranges_more}
use Rattle.treefile.proofs.page.Page.put_ranges.Goals as goal

pub put_range_at-requires : goal.put_range_at-requires
put_range_at-requires c = (omega arith, ranges_room _ _ _ c.loop-i-test.true c.loop-i.invariant c.requires.1)

pub loop-i-preserved : goal.loop-i-preserved
loop-i-preserved c = ranges_more _ _ c.loop-i.invariant c.put_range_at.ensures

pub returns : goal.returns
returns c =
    let all : c.loop-i.i ≡ c.args.count = omega arith in prints_as (ap (λ (k : ℕ). ranges_text (ranges_in k c.args.flat.now)) all) c.loop-i.invariant
