-- `parts::names_part` meets its contract: it makes the tests of the definition in their order.
use Rattle.std.proofs.Common.{inl, inr}
use borrow.Author.Tests.{le-leb, lt-leb, lt-ltb, le-ltb, eq-eqb, ne_eqb}
use Rattle.answers.specs.Limits.{max_store}
use Rattle.ranges.specs.Parts.{named?}
use Rattle.ranges.proofs.parts.names_part.Goals as goal

pub returns-then-m-lt1 : goal.returns-then-m-lt1
unfolding max_store
returns-then-m-lt1 c =
    elim c.then-m-lt1.either [
      | inl h ↦ rw (named?, lt-leb 1 _ h)
      | inr x ↦ elim x [
        | inl h ↦ rw (named?, le-leb 1 _ h.0, lt-leb _ max_store h.1)
        | inr y ↦ elim y [
          | inl h ↦ rw (named?, le-leb 1 _ h.0, le-leb _ max_store h.1, ne_eqb _ _ h.2)
          | inr h ↦ rw (named?, le-leb 1 _ h.0, le-leb _ max_store h.1, eq-eqb _ _ h.2, le-ltb _ _ h.3)
        ]
      ]
    ]

pub returns : goal.returns
unfolding max_store
returns c =
    rw (named?, le-leb 1 _ c.if-m-lt1.false, le-leb _ max_store c.if-m-gt-MAX_STORE.false, eq-eqb _ _ c.if-k-m.false, lt-ltb _ _ c.if-end-start.false)
