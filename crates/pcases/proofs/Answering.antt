-- What the example's tables answer, all tables of its graph answer, since it has no others.
use Rattle.std.specs.Prelude.{Ok, Err}
use Prim.Native.Nat.{ℕ}
use mathlib.Core.Path.{◌≡◌, refl, sym, ap, ◌∙◌}
use mathlib.Core.Bool.{true, false≢true}
use mathlib.Core.List.{List}
use lib.Dec.{eqb}
use borrow.Author.Tests.{eqb-true}
use Rattle.tables.specs.Tables.{Six}
use Rattle.answers.specs.Choice.{pick}
use Rattle.answers.specs.Answers.{refusal_code, Answer}
use Rattle.answers.specs.declared.answer.Refusal.{Refusal}
use Rattle.answers.specs.declared.answer.Refusal.TheVariants.{BadSize, NoRoom, BadOffsets, BadVertex, BadRoot, NotSymmetric, Disconnected, HasCycle, BadTable, TooFar}
use Rattle.ranges.specs.Calls.{Answered, refused, listed, ranges_of}
use Rattle.ranges.specs.declared.kinds.Direction.{Direction}
use Rattle.ranges.specs.declared.kinds.Direction.TheVariants.{Forward, Reversed}
use Rattle.ranges.specs.declared.kinds.PathRange.{PathRange}
use Rattle.ranges.specs.declared.kinds.Kind.{Kind}
use Rattle.pcases.specs.Cases.{Example, Query, answer_to, HasAnswer, HasRanges}
use Rattle.pcases.specs.AnswerChecks.{same_answer?, same_direction, same_range, listed?}
use Rattle.pcases.specs.Holds.{own?}
use Rattle.pcases.proofs.Checking.{both_iff, same_list_lem}
use Rattle.pcases.proofs.Numbering.{tables_right}

-- the refusal that a code stands for
refusal_of : ℕ → Refusal
refusal_of c =
    pick (eqb c 1) BadSize
    (pick (eqb c 2) NoRoom
    (pick (eqb c 3) BadOffsets
    (pick (eqb c 4) BadVertex
    (pick (eqb c 5) BadRoot
    (pick (eqb c 6) NotSymmetric (pick (eqb c 7) Disconnected (pick (eqb c 8) HasCycle (pick (eqb c 9) BadTable TooFar))))))))

refusal_of_code : (r : Refusal) → refusal_of (refusal_code r) ≡ r
unfolding refusal_of
refusal_of_code BadSize = refl
refusal_of_code NoRoom = refl
refusal_of_code BadOffsets = refl
refusal_of_code BadVertex = refl
refusal_of_code BadRoot = refl
refusal_of_code NotSymmetric = refl
refusal_of_code Disconnected = refl
refusal_of_code HasCycle = refl
refusal_of_code BadTable = refl
refusal_of_code TooFar = refl

same_answer : (a b : Answer) → same_answer? a b ≡ true → a ≡ b
same_answer (Ok x) (Ok y) e = ap Ok (eqb-true x y e)
same_answer (Ok x) (Err s) e = absurd (false≢true e)
same_answer (Err r) (Ok y) e = absurd (false≢true e)
same_answer (Err r) (Err s) e =
    ap Err (sym (refusal_of_code r) ∙ ap refusal_of (eqb-true (refusal_code r) (refusal_code s) e) ∙ refusal_of_code s)

same_direction_lem : (a b : Direction) → same_direction a b ≡ true → a ≡ b
same_direction_lem Forward Forward e = refl
same_direction_lem Forward Reversed e = absurd (false≢true e)
same_direction_lem Reversed Forward e = absurd (false≢true e)
same_direction_lem Reversed Reversed e = refl

same-range : (a b : PathRange) → same_range a b ≡ true → a ≡ b
same-range a b e =
    let p = (both_iff (eqb a.start b.start) _).0 e in
    let q = (both_iff (eqb a.end b.end) (same_direction a.direction b.direction)).0 p.1 in
    λ i. record {
      start = eqb-true a.start b.start p.0 i;
      end = eqb-true a.end b.end q.0 i;
      direction = same_direction_lem a.direction b.direction q.1 i;
    }

listed_same : (f : Answered) (l : List PathRange) → listed? f l ≡ true → f ≡ listed l
listed_same (refused r) l e = absurd (false≢true e)
listed_same (listed m) l e = ap listed (same_list_lem same_range same-range m l e)

-- the test of an answer is right
pub answer_right : (x : Example) (q : Query) (a : Answer) → own? x ≡ true → same_answer? (answer_to q x.tables) a ≡ true → HasAnswer x q a
answer_right x q a o e =
    record {
      has_tables = tables_right x o;
      answer = λ t b. ap (answer_to q) ((tables_right x o).only t b) ∙ same_answer (answer_to q x.tables) a e;
    }

-- the test of ranges is right
pub ranges_right :
    (x : Example) (kind : Kind) (u v : ℕ) (l : List PathRange)
    → own? x ≡ true
    → listed? (ranges_of kind x.tables u v) l ≡ true
    → HasRanges x kind u v l
ranges_right x kind u v l o e =
    record {
      has_tables = tables_right x o;
      ranges = λ t b. ap (λ (s : Six). ranges_of kind s u v) ((tables_right x o).only t b) ∙ listed_same (ranges_of kind x.tables u v) l e;
    }
