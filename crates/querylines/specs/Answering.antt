-- What the functions that answer one query ask and answer.
use Rattle.std.specs.Prelude.{ℕ, eqb, List}
use Rattle.tables.specs.Tables.{Six}
use Rattle.answers.specs.Choice.{pick}
use Rattle.queries.specs.Queries.{distance, lca, kth_ancestor, jump, subtree_size}
use Rattle.ranges.specs.Calls.{ranges_of}
use Rattle.ranges.specs.declared.kinds.Kind.{Kind}
use Rattle.ranges.specs.declared.kinds.Kind.TheVariants.{Vertices, Edges, Both}
use Rattle.treefile.specs.declared.page.Page.{Page}
use Rattle.treefile.specs.declared.query.Query.{Query}
use Rattle.treefile.specs.Report.{number_text, list_text, answer_text}
use Rattle.treefile.specs.Flat.{ShortLists}
use Rattle.treefile.specs.Writing.{Room}
use Rattle.querylines.specs.declared.question.Question.{Question}
use Rattle.querylines.specs.declared.question.Question.TheVariants.{Distance, Lca, KthAncestor, Jump, SubtreeSize, Ranges}

-- "1 distance(a,b), 2 lca(a,b,c), 3 kth_ancestor(a,b), 4 jump(a,b,c), 5 subtree_size(a,b), 6 vertex ranges, 7 edge ranges, 8 both"
abbrev pub question_of : ℕ → Question
question_of kind =
    pick (eqb kind 1) Distance
    (pick (eqb kind 2) Lca
    (pick (eqb kind 3) KthAncestor
    (pick (eqb kind 4) Jump
    (pick (eqb kind 5) SubtreeSize
    (pick (eqb kind 6) (Ranges Vertices) (pick (eqb kind 7) (Ranges Edges) (Ranges Both)))))))

-- the text of an answer by what is asked
abbrev pub asked_text : Question → Six → Query → List ℕ
asked_text Distance t q = number_text (distance t q.a q.b)
asked_text Lca t q = number_text (lca t q.a q.b q.c)
asked_text KthAncestor t q = number_text (kth_ancestor t q.a q.b)
asked_text Jump t q = number_text (jump t q.a q.b q.c)
asked_text SubtreeSize t q = number_text (subtree_size t q.a q.b)
asked_text (Ranges kind) t q = list_text (ranges_of kind t q.a q.b)

-- no path of these tables has too many ranges, and the text of this one fits
pub record PathAsks (t : Six) (kind : Kind) (u v : ℕ) (page : Page) : Type 0 where
  pub short : ShortLists t
  pub room : Room (list_text (ranges_of kind t u v)) page

-- the same of a query
pub record AskedAsks (t : Six) (question : Question) (q : Query) (page : Page) : Type 0 where
  pub short : ShortLists t
  pub room : Room (asked_text question t q) page

pub record AnswerAsks (t : Six) (q : Query) (page : Page) : Type 0 where
  pub short : ShortLists t
  pub room : Room (answer_text t q) page
