-- What the functions inside a call that takes a graph ask and answer, between its beginning and its end.
use Rattle.std.specs.Prelude.{ℕ, ◌≤◌, ◌≡◌, ◌≢◌, List, length}
use Rattle.answers.specs.Codes.{done}
use Rattle.graph.specs.Judgement.{Test, First}
use Rattle.graph.specs.Validation.{Sized, room_of}
use Rattle.graph.specs.Work.{Only}

-- the graph is within its limits, and work is long enough
pub record Begun (os ts w : List ℕ) : Type 0 where
  pub sized : Sized os ts
  pub room : room_of os ts ≤ length w

-- the part of a `GraphCall` behind its beginning: the tests that are left, and work still in use
pub record GraphPart {M : Type 0} (os ts : List ℕ) (tests : List Test) (Written : M → Type 0) (lent left : M) (w w' : List ℕ) (c : ℕ) : Type 0 where
  pub code : First tests c
  pub written : c ≡ done → Written left
  pub refused : c ≢ done → left ≡ lent
  pub only : Only 0 (room_of os ts) w w'
