-- Plain reads of the decomposition's two tables: 1 if they are not of one length, from 1 to the limit, then 4.
use Rattle.std.specs.Prelude.{ℕ, List, [], ◌∷◌, length, Ok, Err}
use Rattle.sums.specs.Sum.{at}
use Rattle.answers.specs.Asked.{asked_of}
use Rattle.answers.specs.Answers.{Answer}

-- the entry of v in a table beside which the other one is lent
abbrev pub read_of : (table other : List ℕ) → ℕ → Answer
read_of table other v = asked_of (length table) (length other ∷ []) (v ∷ []) Err (Ok (at table v))
