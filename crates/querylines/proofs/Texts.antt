-- Laws of a query's answer: its kind decides which call gives it, and its text is what that call's answer says.
use Prim.Native.Nat.{ℕ, ◌*◌, ◌≤◌}
use native.Mathlib.Omega.{arith}
use mathlib.Core.Path.{◌≡◌, refl, sym}
use mathlib.Core.Bool.{Bool, true, false}
use mathlib.Core.List.{List}
use lib.Dec.{eqb}
use lib.ListN.{length}
use Rattle.tables.specs.Tables.{Six}
use Rattle.answers.specs.Answers.{Listed}
use Rattle.answers.specs.Choice.{pick}
use Rattle.ranges.specs.Flat.{stride}
use Rattle.ranges.specs.Calls.{Answered, refused, listed, ranges_of, ListedAs}
use Rattle.ranges.specs.declared.kinds.Kind.{Kind}
use Rattle.ranges.specs.declared.kinds.Kind.TheVariants.{Vertices, Edges, Both}
use Rattle.ranges.specs.declared.kinds.PathRange.{PathRange}
use Rattle.treefile.specs.declared.page.Page.{Page}
use Rattle.treefile.specs.declared.query.Query.{Query}
use Rattle.treefile.specs.Report.{list_text, answer_text}
use Rattle.treefile.specs.Flat.{Short, ShortLists, listed_text, spoken_of, taken_by, ListRoom}
use Rattle.treefile.specs.Sizes.{file_ranges}
use Rattle.treefile.specs.Writing.{Room}
use Rattle.treefile.proofs.Flat.{listed_text_lem, spoken_there}
use Rattle.treefile.proofs.Writing.{room_as}
use Rattle.querylines.specs.declared.question.Question.TheVariants.{Distance, Lca, KthAncestor, Jump, SubtreeSize, Ranges}
use Rattle.querylines.specs.Answering.{question_of, asked_text}

-- a choice among texts is the text of what is chosen
chosen : (b₁ b₂ b₃ b₄ b₅ b₆ b₇ : Bool) (t : Six) (q : Query)
    → pick b₁ (asked_text Distance t q) (pick b₂ (asked_text Lca t q) (pick b₃ (asked_text KthAncestor t q) (pick b₄ (asked_text Jump t q)
    (pick b₅ (asked_text SubtreeSize t q) (pick b₆ (asked_text (Ranges Vertices) t q) (pick b₇ (asked_text (Ranges Edges) t q) (asked_text (Ranges Both) t q)))))))
    ≡ asked_text (pick b₁ Distance (pick b₂ Lca (pick b₃ KthAncestor (pick b₄ Jump
    (pick b₅ SubtreeSize (pick b₆ (Ranges Vertices) (pick b₇ (Ranges Edges) (Ranges Both)))))))) t q
chosen true b₂ b₃ b₄ b₅ b₆ b₇ t q = refl
chosen false true b₃ b₄ b₅ b₆ b₇ t q = refl
chosen false false true b₄ b₅ b₆ b₇ t q = refl
chosen false false false true b₅ b₆ b₇ t q = refl
chosen false false false false true b₆ b₇ t q = refl
chosen false false false false false true b₇ t q = refl
chosen false false false false false false true t q = refl
chosen false false false false false false false t q = refl

pub answer_asked : (t : Six) (q : Query) → answer_text t q ≡ asked_text (question_of q.kind) t q
unfolding answer_text
answer_asked t q =
    chosen (eqb q.kind 1) (eqb q.kind 2) (eqb q.kind 3) (eqb q.kind 4) (eqb q.kind 5) (eqb q.kind 6) (eqb q.kind 7) t q

-- a short answer takes so many numbers
few-numbers : (a : Answered) → ((l : List PathRange) → a ≡ listed l → Short l) → taken_by a ≤ stride * file_ranges
few-numbers (refused x) short = omega arith
few-numbers (listed l) short = omega (arith, (short l refl).few)

-- what a call for ranges left in a list that holds any short answer is the text of its answer
module _ (t : Six) (short : ShortLists t) (kind : Kind) (u v : ℕ) {lent left : List ℕ} {r : Listed} (h : ListedAs (ranges_of kind t u v) lent left r) (long : stride * file_ranges ≤ length lent) where
  enough : taken_by (ranges_of kind t u v) ≤ length lent
  enough = let f = few-numbers (ranges_of kind t u v) (short kind u v) in omega arith

  pub left_text : listed_text r left ≡ list_text (ranges_of kind t u v)
  left_text = rw (h.answer, h.list) (listed_text_lem (ranges_of kind t u v) lent enough)

  left_whole : spoken_of r ≤ length left
  left_whole = rw (h.answer, h.list) (spoken_there (ranges_of kind t u v) lent enough)

  pub left_room : {page : Page} → Room (list_text (ranges_of kind t u v)) page → ListRoom r left page
  left_room room = record { whole = left_whole; room = room_as (sym left_text) room }
