-- What a C caller gets of an answer: its code as the result, its values in the numbers lent for them. "A refused call returns its code and no other
-- number."
use Rattle.std.specs.Prelude.{ℕ, ◌≡◌, List, [], ◌∷◌, Result, Ok, Err}
use Rattle.answers.specs.declared.answer.Refusal.{Refusal}
use Rattle.answers.specs.Answers.{answer_code, answer_values, interval_code, interval_values, listed_code, listed_values, Answer, Interval, Listed}

-- the number lent, afterwards: the first of the values, and unchanged where there is none
abbrev pub first_or : ℕ → List ℕ → ℕ
first_or before [] = before
first_or before (x ∷ xs) = x

-- what stands behind the first value
abbrev pub rest_of : List ℕ → List ℕ
rest_of [] = []
rest_of (x ∷ xs) = xs

-- the code of an answer, and its one value in the number lent
pub record HandedOver (number : ℕ) (values : List ℕ) (before after code : ℕ) : Type 0 where
  pub code_given : code ≡ number
  pub value_given : after ≡ first_or before values

abbrev pub Handed : Answer → ℕ → ℕ → ℕ → Type 0
Handed a before after code = HandedOver (answer_code a) (answer_values a) before after code

abbrev pub HandedCount : Listed → ℕ → ℕ → ℕ → Type 0
HandedCount l before after code = HandedOver (listed_code l) (listed_values l) before after code

-- what stands in the place lent for an answer, afterwards: its value, or what was there before
abbrev pub found_or : {A : Type 0} → Result A Refusal → A → A
found_or (Ok x) before = x
found_or (Err r) before = before

-- an interval's start and end, each in a number of its own
pub record HandedEnds (i : Interval) (start end start' end' code : ℕ) : Type 0 where
  pub code_given : code ≡ interval_code i
  pub start_given : start' ≡ first_or start (interval_values i)
  pub end_given : end' ≡ first_or end (rest_of (interval_values i))
