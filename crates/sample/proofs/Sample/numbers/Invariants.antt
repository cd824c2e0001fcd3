-- What the loop of `Sample::numbers` keeps.
use Rattle.std.proofs.Common.{◌≡◌, ◌+◌, ◌*◌, length}
use Rattle.sample.proofs.Sample.numbers.Given as goal

-- two bytes were taken for each entry that has been written
abbrev pub invariant-loop-entry : goal.invariant-loop-entry
invariant-loop-entry l = length l.self.rest.now + 2 * l.entry-index ≡ length l.initial.self.rest.now
