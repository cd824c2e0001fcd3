-- `writes::write_path` meets its contract: the loop keeps a climb of which the rest is still to be written, and no side is lost.
use native.Mathlib.Omega.{arith}
use mathlib.Core.Path.{sym, ap, subst, ◌∙◌}
use Rattle.climb.proofs.Going.{u_word, v_word, going_u_less, going_v_less}
use Rattle.ranges.specs.Ranges.{chain_range}
use Rattle.ranges.specs.Inner.{Chain}
use Rattle.rangelists.proofs.Writing.{writing_start, u_never, u_chain, u_slot, writing_u, v_never, v_room, v_chain, v_slot, writing_v, writing-ends, last_slot, writing-done}
use Rattle.rangelists.proofs.writes.write_path.Goals as goal

pub loop-climb-init : goal.loop-climb-init
loop-climb-init c = writing_start _ _ _ _ c.requires.climbs c.requires.known c.new-climb.ensures

pub leave_chain-requires : goal.leave_chain-requires
leave_chain-requires c = record { rests = record { even = c.requires.climbs.even; seat = c.loop-climb.invariant.going.u_seat }; few = u_word _ _ _ _ _ c.loop-climb.invariant.going (omega (arith, c.well_formed)) }

pub shape_of-ranges-in_default : goal.shape_of-ranges-in_default
shape_of-ranges-in_default c = c.loop-climb.invariant.long

pub returns-in_default : goal.returns-in_default
returns-in_default c = absurd (u_never _ _ _ _ _ _ _ _ c.loop-climb.invariant c.loop-climb-test.true c.if-climb.true c.in_default.ensures)

pub u_piece-requires : goal.u_piece-requires
u_piece-requires c = writing-ends _ _ _ _ _ _ _ _ c.loop-climb.invariant c.requires.small

pub chain_range-range-requires : goal.chain_range-range-requires
chain_range-range-requires c = subst Chain (sym c.u_piece.ensures) (u_chain _ _ _ _ _ _ _ _ c.loop-climb.invariant c.loop-climb-test.true c.if-climb.true c.in-Ok.ensures c.requires.small)

pub write_range-requires : goal.write_range-requires
write_range-requires c = u_slot _ _ _ _ _ _ _ _ c.loop-climb.invariant c.loop-climb-test.true c.if-climb.true c.in-Ok.ensures c.requires.small c.requires.room (c.chain_range-range.ensures ∙ ap (chain_range c.args.kind) c.u_piece.ensures)

pub u_moved-climb-requires : goal.u_moved-climb-requires
u_moved-climb-requires c = omega (arith, u_word _ _ _ _ _ c.loop-climb.invariant.going (omega (arith, c.well_formed)))

pub loop-climb-smaller-then-climb : goal.loop-climb-smaller-then-climb
loop-climb-smaller-then-climb c = going_u_less _ _ _ _ _ c.loop-climb.invariant.going c.loop-climb-test.true c.if-climb.true c.in-Ok.ensures c.u_moved-climb.ensures

pub loop-climb-preserved-then-climb : goal.loop-climb-preserved-then-climb
loop-climb-preserved-then-climb c = writing_u _ _ _ _ _ _ _ _ c.loop-climb.invariant c.loop-climb-test.true c.if-climb.true c.in-Ok.ensures c.u_moved-climb.ensures (c.chain_range-range.ensures ∙ ap (chain_range c.args.kind) c.u_piece.ensures) c.write_range.ensures

pub leave_chain-requires-else-climb : goal.leave_chain-requires-else-climb
leave_chain-requires-else-climb c = record { rests = record { even = c.requires.climbs.even; seat = c.loop-climb.invariant.going.v_seat }; few = v_word _ _ _ _ _ c.loop-climb.invariant.going (omega (arith, c.well_formed)) }

pub shape_of-ranges-in_default-leave_chain : goal.shape_of-ranges-in_default-leave_chain
shape_of-ranges-in_default-leave_chain c = c.loop-climb.invariant.long

pub returns-in_default-leave_chain : goal.returns-in_default-leave_chain
returns-in_default-leave_chain c = absurd (v_never _ _ _ _ _ _ _ _ c.loop-climb.invariant c.loop-climb-test.true c.if-climb.false c.in_default-leave_chain.ensures)

pub v_piece-requires : goal.v_piece-requires
v_piece-requires c = writing-ends _ _ _ _ _ _ _ _ c.loop-climb.invariant c.requires.small

pub chain_range-range-requires-else-climb : goal.chain_range-range-requires-else-climb
chain_range-range-requires-else-climb c = subst Chain (sym c.v_piece.ensures) (v_chain _ _ _ _ _ _ _ _ c.loop-climb.invariant c.loop-climb-test.true c.if-climb.false c.in-Ok-leave_chain.ensures c.requires.small)

pub overflow_sub-count : goal.overflow_sub-count
overflow_sub-count c = omega (arith, v_room _ _ _ _ _ _ _ _ c.loop-climb.invariant c.loop-climb-test.true c.if-climb.false c.in-Ok-leave_chain.ensures)

pub overflow_sub-count-else-climb : goal.overflow_sub-count-else-climb
overflow_sub-count-else-climb c = omega (arith, v_room _ _ _ _ _ _ _ _ c.loop-climb.invariant c.loop-climb-test.true c.if-climb.false c.in-Ok-leave_chain.ensures)

pub write_range-requires-else-climb : goal.write_range-requires-else-climb
write_range-requires-else-climb c = v_slot _ _ _ _ _ _ _ _ c.loop-climb.invariant c.loop-climb-test.true c.if-climb.false c.in-Ok-leave_chain.ensures c.requires.small c.requires.room (c.chain_range-range-else-climb.ensures ∙ ap (chain_range c.args.kind) c.v_piece.ensures)

pub v_moved-climb-requires : goal.v_moved-climb-requires
v_moved-climb-requires c = omega (arith, v_word _ _ _ _ _ c.loop-climb.invariant.going (omega (arith, c.well_formed)))

pub loop-climb-smaller : goal.loop-climb-smaller
loop-climb-smaller c = going_v_less _ _ _ _ _ c.loop-climb.invariant.going c.loop-climb-test.true c.if-climb.false c.in-Ok-leave_chain.ensures c.v_moved-climb.ensures

pub loop-climb-preserved : goal.loop-climb-preserved
loop-climb-preserved c = writing_v _ _ _ _ _ _ _ _ c.loop-climb.invariant c.loop-climb-test.true c.if-climb.false c.in-Ok-leave_chain.ensures c.v_moved-climb.ensures (c.chain_range-range-else-climb.ensures ∙ ap (chain_range c.args.kind) c.v_piece.ensures) c.write_range-else-climb.ensures

pub last_chain-requires : goal.last_chain-requires
last_chain-requires c = writing-ends _ _ _ _ _ _ _ _ c.loop-climb.invariant c.requires.small

pub write_last-requires : goal.write_last-requires
write_last-requires c = last_slot _ _ _ _ _ _ _ _ c.loop-climb.invariant c.loop-climb-test.false _ c.last_chain.ensures c.requires.small c.requires.room

pub shape_of-ranges : goal.shape_of-ranges
shape_of-ranges c = c.write_last.auto.ranges ∙ c.loop-climb.invariant.long

pub returns : goal.returns
returns c = record { each = writing-done _ _ _ _ _ _ _ _ c.loop-climb.invariant c.loop-climb-test.false c.last_chain.result c.last_chain.ensures c.requires.known c.requires.room c.write_last.ensures }
