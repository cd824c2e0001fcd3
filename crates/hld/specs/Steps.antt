-- What the inner function `build` asks of its caller and answers: the tests 3 to 8 and the tables, with work still in use.
use Rattle.std.specs.Prelude.{ℕ, List}
use Rattle.graph.specs.Lent.{vertices, list_of}
use Rattle.graph.specs.Validation.{graph_tests}
use Rattle.graph.specs.Steps.{Begun, GraphPart}
use Rattle.tables.specs.Tables.{Six, Long, TablesOf}

-- the tests 1 and 2 were passed
pub record BuildAsks (os ts : List ℕ) (t : Six) (w : List ℕ) : Type 0 where
  pub begun : Begun os ts w
  pub long : Long (vertices os) t

abbrev pub Built : (os ts : List ℕ) (root : ℕ) (t : Six) (w : List ℕ) (t' : Six) (w' : List ℕ) (c : ℕ) → Type 0
Built os ts root t w t' w' c = GraphPart os ts (graph_tests os ts root) (λ (m : Six). TablesOf (vertices os) (list_of os ts) root m) t t' w w' c
