-- `climbing::leave_chain` meets its contract: the parent of the head is reached where a chain is left to leave.
use Rattle.numbering.proofs.Logs.{log2_more, log2_worn}
use Rattle.climb.proofs.Reaching.{leave_late, leave_here}
use Rattle.climb.proofs.climbing.leave_chain.Goals as goal

pub returns-then-tables-left-lt2 : goal.returns-then-tables-left-lt2
returns-then-tables-left-lt2 c = leave_late c.requires (log2_worn _ _ c.if-tables-left-lt2.true)

pub returns : goal.returns
returns c = leave_here c.requires (log2_more _ _ c.if-tables-left-lt2.false) c.reach_above.ensures
