-- `room::range_room` meets its contract.
use native.Mathlib.Omega.{arith}
use Rattle.std.proofs.Common.{inl, inr}
use borrow.Author.Tests.{le-leb, lt-leb}
use Rattle.answers.specs.Limits.{max_vertices}
use Rattle.ranges.proofs.Bounds.{log2_bounded}
use Rattle.ranges.proofs.room.range_room.Goals as goal

pub returns-then-n-lt1 : goal.returns-then-n-lt1
unfolding max_vertices
returns-then-n-lt1 c = elim c.then-n-lt1.either [ inl h ↦ rw (lt-leb 1 _ h) | inr h ↦ rw (le-leb 1 _ h.0, lt-leb _ max_vertices h.1) ]

pub overflow_mul-result : goal.overflow_mul-result
unfolding max_vertices
overflow_mul-result c = omega (arith, log2_bounded _ c.if-n-lt1.false c.if-n-gt-MAX_VERTICES.false, c.floor_log2.ensures)

pub overflow_add-result : goal.overflow_add-result
unfolding max_vertices
overflow_add-result c = omega (arith, log2_bounded _ c.if-n-lt1.false c.if-n-gt-MAX_VERTICES.false, c.floor_log2.ensures)

pub returns : goal.returns
unfolding max_vertices
returns c = rw (le-leb 1 _ c.if-n-lt1.false, le-leb _ max_vertices c.if-n-gt-MAX_VERTICES.false, c.floor_log2.ensures)
