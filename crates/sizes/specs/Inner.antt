-- What the contracts of inner functions cite: no reader of a query's meaning needs it.
use Rattle.std.specs.Prelude.{ℕ, ◌+◌, ◌<◌, ◌^◌, ◌≡◌, Bool, leb, length, Ok, Err}
use Rattle.sums.specs.Sum.{at}
use Rattle.tables.specs.Tables.{Six}
use Rattle.answers.specs.Choice.{pick, both}
use Rattle.answers.specs.Answers.{Answer}
use Rattle.answers.specs.declared.answer.Refusal.TheVariants.{BadTable}
use Rattle.climb.specs.Asked.{size_of}
use Rattle.climb.specs.Sound.{stand_on, On}
use Rattle.climb.specs.Inner.{Even}
use Rattle.climb.specs.declared.places.Place.{Place}

-- the test of a size: of `count` vertices from the number i on
abbrev pub counted? : (n i count : ℕ) → Bool
counted? n i count = both (leb 1 count) (leb (i + count) n)

-- the size of y, whose number is i
pub record Sizes (t : Six) (y i : ℕ) : Type 0 where
  pub size : length t.size ≡ size_of t
  pub vertex : y < size_of t
  pub small : i < 2 ^ 63

abbrev pub sound_size : Six → ℕ → ℕ → Answer
sound_size t y i = pick (counted? (size_of t) i (at t.size y)) (Ok (at t.size y)) (Err BadTable)

pub record Counts (t : Six) (y : ℕ) : Type 0 where
  pub id : length t.id ≡ size_of t
  pub size : length t.size ≡ size_of t
  pub vertex : y < size_of t

-- a and b are sound vertices with what was read of them
pub record ReRoots (t : Six) (a b : Place) : Type 0 where
  pub even : Even t
  pub order : length t.order ≡ size_of t
  pub size : length t.size ≡ size_of t
  pub below : b.vertex < size_of t
  pub on_a : On a ≡ stand_on (size_of t) t a.vertex
  pub on_b : On b ≡ stand_on (size_of t) t b.vertex
