-- 01, "Codes": the number and the values that each answer stands for. "A refused call returns its code and no other number."
use Rattle.std.specs.Prelude.{ℕ, List, [], ◌∷◌, Result, Ok, Err}
use Rattle.answers.specs.Codes.{done, bad_size, no_room, bad_offsets, bad_vertex, bad_root, not_symmetric, disconnected, has_cycle, bad_table, too_far}
use Rattle.answers.specs.declared.answer.Refusal.{Refusal}
use Rattle.answers.specs.declared.answer.Refusal.TheVariants.{BadSize, NoRoom, BadOffsets, BadVertex, BadRoot, NotSymmetric, Disconnected, HasCycle, BadTable, TooFar}

abbrev pub refusal_code : Refusal → ℕ
refusal_code BadSize = bad_size
refusal_code NoRoom = no_room
refusal_code BadOffsets = bad_offsets
refusal_code BadVertex = bad_vertex
refusal_code BadRoot = bad_root
refusal_code NotSymmetric = not_symmetric
refusal_code Disconnected = disconnected
refusal_code HasCycle = has_cycle
refusal_code BadTable = bad_table
refusal_code TooFar = too_far

-- the code of any answer
abbrev pub code_of : {A : Type 0} → Result A Refusal → ℕ
code_of (Ok x) = done
code_of (Err r) = refusal_code r

-- a vertex or another number
abbrev pub Answer : Type 0
Answer = Result ℕ Refusal

-- the numbers from the first up to the second, the second excluded
abbrev pub Interval : Type 0
Interval = Result (ℕ × ℕ) Refusal

-- how many ranges were written
abbrev pub Listed : Type 0
Listed = Result ℕ Refusal

abbrev pub answer_code : Answer → ℕ
answer_code a = code_of a

abbrev pub answer_values : Answer → List ℕ
answer_values (Ok x) = x ∷ []
answer_values (Err r) = []

abbrev pub interval_code : Interval → ℕ
interval_code i = code_of i

abbrev pub interval_values : Interval → List ℕ
interval_values (Ok (a, e)) = a ∷ e ∷ []
interval_values (Err r) = []

abbrev pub listed_code : Listed → ℕ
listed_code l = code_of l

abbrev pub listed_values : Listed → List ℕ
listed_values (Ok k) = k ∷ []
listed_values (Err r) = []
