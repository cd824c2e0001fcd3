-- `room::floor_log2` meets its contract: the leading zeros of n, its highest set bit and log2 n bits below it make 64.
use native.Mathlib.Omega.{arith}
use Rattle.numbering.proofs.Logs.{log2_leading}
use Rattle.ranges.proofs.room.floor_log2.Goals as goal

pub overflow_cast-result : goal.overflow_cast-result
overflow_cast-result c = omega (arith, log2_leading 64 c.args.n c.requires (omega (arith, c.ranges.n)))

pub overflow_sub-result-2 : goal.overflow_sub-result-2
overflow_sub-result-2 c = omega (arith, log2_leading 64 c.args.n c.requires (omega (arith, c.ranges.n)))

pub returns : goal.returns
returns c = omega (arith, log2_leading 64 c.args.n c.requires (omega (arith, c.ranges.n)))
