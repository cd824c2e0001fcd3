-- What the contracts of inner functions cite: no reader of a query's meaning needs it.
use Rattle.std.specs.Prelude.{ℕ, ◌<◌, ◌≡◌, length, Err}
use Rattle.tables.specs.Tables.{Six}
use Rattle.answers.specs.Choice.{pick}
use Rattle.answers.specs.Answers.{Answer}
use Rattle.answers.specs.declared.answer.Refusal.TheVariants.{BadTable}
use Rattle.climb.specs.Asked.{size_of}
use Rattle.climb.specs.Inner.{Even, hangs?, Seat}
use Rattle.queries.specs.Queries.{ancestor_from}
use Rattle.climb.specs.declared.places.Place.{Place}

-- The ancestor lookup reads all but `size`.

pub record Looks (t : Six) (i : ℕ) : Type 0 where
  pub depth : length t.depth ≡ size_of t
  pub id : length t.id ≡ size_of t
  pub order : length t.order ≡ size_of t
  pub number : i < size_of t

-- a place that was reached
pub record Rises (t : Six) (p : Place) : Type 0 where
  pub even : Even t
  pub order : length t.order ≡ size_of t
  pub seat : Seat t p

-- k steps up from a place that was reached, whose head must hang
abbrev pub rise_from : ℕ → ℕ → Six → Place → ℕ → Answer
rise_from chains n t p k = pick (hangs? n t p) (ancestor_from chains n t p k) (Err BadTable)

pub record Finds (t : Six) (v : ℕ) : Type 0 where
  pub even : Even t
  pub order : length t.order ≡ size_of t
  pub vertex : v < size_of t
