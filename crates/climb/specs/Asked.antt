-- 01, "What is delivered": "Every query is lent all six tables, and n is the parent table's length". The tests before a query, of the six.
use Rattle.std.specs.Prelude.{ℕ, Bool, List, [], ◌∷◌, length}
use Rattle.answers.specs.Asked.{sized?, asked_of}
use Rattle.answers.specs.declared.answer.Refusal.{Refusal}
use Rattle.tables.specs.Tables.{Six}

abbrev pub size_of : Six → ℕ
size_of t = length t.parent

-- the lengths of the other five
abbrev pub others_of : Six → List ℕ
others_of t = length t.depth ∷ length t.head ∷ length t.id ∷ length t.order ∷ length t.size ∷ []

abbrev pub tables? : Six → Bool
tables? t = sized? (size_of t) (others_of t)

-- "A query tests 1, then 4"
abbrev pub asked : {A : Type 0} → Six → List ℕ → (Refusal → A) → A → A
asked t vs refused answer = asked_of (size_of t) (others_of t) vs refused answer
