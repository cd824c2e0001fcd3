-- `lists::path_ranges` meets its contract: each way out is one of the ways that a call for ranges goes.
use native.Mathlib.Omega.{arith}
use Prim.Native.Nat.{◌+◌, ◌<◌, ◌^◌}
use mathlib.Core.Path.{◌≡◌, ap, ◌∙◌}
use mathlib.Core.List.{[], ◌∷◌}
use lib.ListN.{length}
use Rattle.std.specs.Prelude.{Ok}
use Rattle.tables.specs.Tables.{six_in}
use Rattle.answers.proofs.Passed.{handed_on}
use Rattle.climb.specs.Asked.{size_of}
use Rattle.climb.specs.Climbing.{climb_to}
use Rattle.climb.specs.Inner.{ClimbsFrom}
use Rattle.climb.proofs.Passed.{Passed, tests_passed, lengths, few_parent}
use Rattle.climb.proofs.Handed.{climbs-from, met_there, lost_u, lost_v}
use Rattle.rangelists.proofs.Listing.{last_few, met_known, met-ends, met_few, ranges_refused, ranges_lost, ranges_short, ranges-written, wrote_there}
use Rattle.rangelists.proofs.lists.path_ranges.Goals as goal
use Rattle.rangelists.proofs.lists.path_ranges.Goals.{In_ok-asked, In_ok-q, In_ok-climb}

-- the tests before the climb were passed
passed : (c : In_ok-asked) → Passed (six_in c.args.tables.now) (c.args.u ∷ c.args.v ∷ [])
passed c = tests_passed _ _ c.in_ok-asked.ensures

-- both ends were reached
ends : (c : In_ok-q) → ClimbsFrom (six_in c.args.tables.now) c.in_ok-p.p c.in_ok-q.q
ends c =
    let l = lengths (tests_passed (six_in c.args.tables.now) (c.args.u ∷ c.args.v ∷ []) c.in_ok-asked.ensures) in
    climbs-from c.in_ok-p.ensures c.in_ok-q.ensures l.even (few_parent l.few)

-- and the climb from u and v met, both sides having left few chains
met : (c : In_ok-climb) → Ok c.in_ok-climb.climb ≡ climb_to (size_of (six_in c.args.tables.now)) (six_in c.args.tables.now) c.args.u c.args.v
met c = (met_there c.in_ok-p.ensures c.in_ok-q.ensures c.in_ok-climb.ensures).is

few : (c : In_ok-climb) → c.in_ok-climb.climb.u_count + c.in_ok-climb.climb.v_count < 2 ^ 32
few c =
    let l = lengths (tests_passed (six_in c.args.tables.now) (c.args.u ∷ c.args.v ∷ []) c.in_ok-asked.ensures) in
    met_few c.args.kind _ _ _ _ (met c) l.some l.few

pub returns-in_err-asked : goal.returns-in_err-asked
returns-in_err-asked c =
    rw (handed_on c.from_residual.result c.from_residual.ensures.1) (ranges_refused c.args.kind _ _ _ c.args.ranges.now c.in_err-asked.ensures)

pub returns-in_err-p : goal.returns-in_err-p
returns-in_err-p c =
    rw (handed_on c.from_residual-in_err-p.result c.from_residual-in_err-p.ensures.1)
    (ranges_lost c.args.kind _ _ _ (passed (goal.at.returns-in_err-p c).In_ok-asked) c.args.ranges.now (lost_u _ c.in_err-p.ensures))

pub returns-in_err-q : goal.returns-in_err-q
returns-in_err-q c =
    rw (handed_on c.from_residual-in_err-q.result c.from_residual-in_err-q.ensures.1)
    (ranges_lost c.args.kind _ _ _ (passed (goal.at.returns-in_err-q c).In_ok-asked) c.args.ranges.now (lost_v _ c.in_err-q.ensures))

pub meet-requires : goal.meet-requires
meet-requires c = ends (goal.at.meet-requires c).In_ok-q

pub returns-in_err-climb : goal.returns-in_err-climb
returns-in_err-climb c =
    rw (handed_on c.from_residual-in_err-climb.result c.from_residual-in_err-climb.ensures.1)
    (ranges_lost c.args.kind _ _ _ (passed (goal.at.returns-in_err-climb c).In_ok-asked) c.args.ranges.now (met_there c.in_ok-p.ensures c.in_ok-q.ensures c.in_err-climb.ensures).is)

pub overflow_add-count : goal.overflow_add-count
overflow_add-count c = omega (arith, few (goal.at.overflow_add-count c).In_ok-climb)

pub last_chain-requires : goal.last_chain-requires
last_chain-requires c =
    met-ends c.args.kind _ _ _ _ (met (goal.at.last_chain-requires c).In_ok-climb) (lengths (passed (goal.at.last_chain-requires c).In_ok-asked)).few

pub overflow_add-count-2 : goal.overflow_add-count-2
overflow_add-count-2 c = omega (arith, last_few c.last_chain.result, c.last_count.ensures, few (goal.at.overflow_add-count-2 c).In_ok-climb)

pub overflow_mul-count : goal.overflow_mul-count
overflow_mul-count c = omega (arith, last_few c.last_chain.result, c.last_count.ensures, few (goal.at.overflow_mul-count c).In_ok-climb)

pub returns-then-ranges-count : goal.returns-then-ranges-count
returns-then-ranges-count c =
    ranges_short c.args.kind _ _ _ (passed (goal.at.returns-then-ranges-count c).In_ok-asked) (met (goal.at.returns-then-ranges-count c).In_ok-climb)
    _ (c.last_count.ensures ∙ ap length c.last_chain.ensures) c.args.ranges.now c.if-ranges-count.true

pub write_path-requires : goal.write_path-requires
write_path-requires c =
    record {
      climbs = ends (goal.at.write_path-requires c).In_ok-q;
      small = (lengths (passed (goal.at.write_path-requires c).In_ok-asked)).few;
      known = met_known c.args.kind _ _ _ _ c.in_ok-climb.ensures.is _ (c.last_count.ensures ∙ ap length c.last_chain.ensures);
      room = c.if-ranges-count.false;
    }

pub returns : goal.returns
returns c =
    ranges-written c.args.kind _ _ _ (passed (goal.at.returns c).In_ok-asked) (met (goal.at.returns c).In_ok-climb) _ (c.last_count.ensures ∙ ap length c.last_chain.ensures)
    c.if-ranges-count.false (wrote_there c.in_ok-p.ensures c.in_ok-q.ensures c.write_path.ensures)
