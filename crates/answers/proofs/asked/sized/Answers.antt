-- `asked::sized` meets its contract: each return says how far its tests passed.
use Rattle.std.proofs.Common.{inl, inr}
use borrow.Author.Tests.{le-leb, lt-leb}
use Rattle.answers.specs.Limits.{max_vertices}
use Rattle.answers.proofs.asked.sized.Goals as goal

pub returns-then-n-lt1 : goal.returns-then-n-lt1
unfolding max_vertices
returns-then-n-lt1 c = elim c.then-n-lt1.either [ inl h ↦ rw (lt-leb _ _ h) | inr h ↦ rw (le-leb _ _ h.0, lt-leb _ _ h.1) ]

pub returns : goal.returns
unfolding max_vertices
returns c = rw (le-leb _ _ c.if-n-lt1.false, le-leb _ _ c.if-n-gt-MAX_VERTICES.false) c.even.ensures
