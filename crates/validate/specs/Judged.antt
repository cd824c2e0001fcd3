-- What `judge` answers: the tests 3 to 8, with the visit left in work for a build.
use Rattle.std.specs.Prelude.{ℕ, ◌≡◌, List}
use Rattle.answers.specs.Codes.{done}
use Rattle.graph.specs.Judgement.{First}
use Rattle.graph.specs.Lent.{vertices, list_of}
use Rattle.graph.specs.Validation.{room_of, graph_tests}
use Rattle.graph.specs.Work.{Only}
use Rattle.visit.specs.Visit.{Visited, queue_in, up_in}

-- a visit from the root that met every vertex stands in work
pub record VisitIn (os ts : List ℕ) (root : ℕ) (w : List ℕ) : Type 0 where
  pub place : ℕ → ℕ
  pub visited : Visited (vertices os) (list_of os ts) root (queue_in w 0) (up_in w (vertices os) 0) place (vertices os)

-- c is the code of the first of the tests 3 to 8 that is not passed; after 0 the visit stands in work
pub record Judged (os ts : List ℕ) (root : ℕ) (w w' : List ℕ) (c : ℕ) : Type 0 where
  pub code : First (graph_tests os ts root) c
  pub only : Only 0 (room_of os ts) w w'
  pub visit : c ≡ done → VisitIn os ts root w'
