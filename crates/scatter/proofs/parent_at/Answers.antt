use Rattle.answers.specs.Limits.{no_parent}
use Rattle.scatter.proofs.parent_at.Goals as goal

pub returns-then-j-eq0 : goal.returns-then-j-eq0
unfolding no_parent
returns-then-j-eq0 c = rw c.if-j-eq0.true
