-- 01, "Codes": what `try_hld` answers, and what it leaves in the tables and in work.
use Rattle.std.specs.Prelude.{ℕ, ◌≤◌, List, length}
use Rattle.graph.specs.Judgement.{Test}
use Rattle.graph.specs.Lent.{vertices, list_of}
use Rattle.graph.specs.Validation.{Fits, room_of, graph_tests, opening, GraphCall}
use Rattle.tables.specs.Tables.{Six, Long, TablesOf}

-- "A build .. tests 1 to 8 in that order."
abbrev pub building : List ℕ → List ℕ → ℕ → Six → ℕ → List Test
building os ts root t room = opening (Fits os ts (Long (vertices os) t)) (room_of os ts ≤ room) (graph_tests os ts root)

-- `try_hld` with tables t and work w answers c and leaves t' and w'; after 0 they are the tables of the tree from the root
abbrev pub Builds : (os ts : List ℕ) (root : ℕ) (t : Six) (w : List ℕ) (t' : Six) (w' : List ℕ) (c : ℕ) → Type 0
Builds os ts root t w t' w' c =
    GraphCall os ts (Fits os ts (Long (vertices os) t)) (building os ts root t (length w))
    (λ (m : Six). TablesOf (vertices os) (list_of os ts) root m) t t' w w' c
