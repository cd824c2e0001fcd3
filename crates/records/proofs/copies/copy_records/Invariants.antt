-- The records that are left to copy, put into the slice as it stands, give what all of them give.
use Rattle.std.proofs.Common.{◌≡◌, ◌-◌}
use Rattle.records.specs.Inner.{copied}
use Rattle.records.proofs.copies.copy_records.Given as goal

abbrev pub invariant-loop-i : goal.invariant-loop-i
invariant-loop-i l = copied l.numbers l.i (l.i-end - l.i) l.ranges ≡ copied l.numbers 0 l.i-end l.initial.ranges
