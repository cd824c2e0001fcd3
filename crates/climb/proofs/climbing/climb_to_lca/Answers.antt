-- `climbing::climb_to_lca` meets its contract: the loop keeps a climb under way, and each way out ends it.
use native.Mathlib.Omega.{arith}
use Rattle.answers.proofs.Passed.{handed_on}
use Rattle.climb.proofs.Going.{u_word, v_word, going_begins, going_u_lost, going_u_less, going_u, going_v_lost, going_v_less, going_v, climbed_begun, climbed_lost, climbed_met}
use Rattle.climb.proofs.climbing.climb_to_lca.Goals as goal

pub loop-climb-init : goal.loop-climb-init
loop-climb-init c = going_begins _ c.requires c.new-climb.ensures

pub leave_chain-requires : goal.leave_chain-requires
leave_chain-requires c = record { rests = record { even = c.requires.even; seat = c.loop-climb.invariant.u_seat }; few = u_word _ _ _ _ _ c.loop-climb.invariant (omega (arith, c.well_formed)) }

pub returns-in_err-next : goal.returns-in_err-next
returns-in_err-next c =
    rw (handed_on c.from_residual.result c.from_residual.ensures.1)
    (climbed_begun _ c.requires c.new-climb.ensures (climbed_lost _ _ _ (going_u_lost _ _ _ _ _ c.loop-climb.invariant c.loop-climb-test.true c.if-climb.true c.in_err-next.ensures)))

pub u_moved-climb-requires : goal.u_moved-climb-requires
u_moved-climb-requires c = omega (arith, u_word _ _ _ _ _ c.loop-climb.invariant (omega (arith, c.well_formed)))

pub loop-climb-smaller-then-climb : goal.loop-climb-smaller-then-climb
loop-climb-smaller-then-climb c = going_u_less _ _ _ _ _ c.loop-climb.invariant c.loop-climb-test.true c.if-climb.true c.in_ok-next.ensures c.u_moved-climb.ensures

pub loop-climb-preserved-then-climb : goal.loop-climb-preserved-then-climb
loop-climb-preserved-then-climb c = going_u _ _ _ _ _ c.loop-climb.invariant c.loop-climb-test.true c.if-climb.true c.in_ok-next.ensures c.u_moved-climb.ensures

pub leave_chain-requires-else-climb : goal.leave_chain-requires-else-climb
leave_chain-requires-else-climb c = record { rests = record { even = c.requires.even; seat = c.loop-climb.invariant.v_seat }; few = v_word _ _ _ _ _ c.loop-climb.invariant (omega (arith, c.well_formed)) }

pub returns-in_err-next-2 : goal.returns-in_err-next-2
returns-in_err-next-2 c =
    rw (handed_on c.from_residual-in_err-next-2.result c.from_residual-in_err-next-2.ensures.1)
    (climbed_begun _ c.requires c.new-climb.ensures (climbed_lost _ _ _ (going_v_lost _ _ _ _ _ c.loop-climb.invariant c.loop-climb-test.true c.if-climb.false c.in_err-next-2.ensures)))

pub v_moved-climb-requires : goal.v_moved-climb-requires
v_moved-climb-requires c = omega (arith, v_word _ _ _ _ _ c.loop-climb.invariant (omega (arith, c.well_formed)))

pub loop-climb-smaller : goal.loop-climb-smaller
loop-climb-smaller c = going_v_less _ _ _ _ _ c.loop-climb.invariant c.loop-climb-test.true c.if-climb.false c.in_ok-next-2.ensures c.v_moved-climb.ensures

pub loop-climb-preserved : goal.loop-climb-preserved
loop-climb-preserved c = going_v _ _ _ _ _ c.loop-climb.invariant c.loop-climb-test.true c.if-climb.false c.in_ok-next-2.ensures c.v_moved-climb.ensures

pub returns : goal.returns
returns c = climbed_begun _ c.requires c.new-climb.ensures (climbed_met _ _ _ c.loop-climb.invariant c.loop-climb-test.false)
