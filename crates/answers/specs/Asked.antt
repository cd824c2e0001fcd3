-- 01, "Codes": the tests 1 and 4 that come before every query on lent tables. n is the length of the first table, `lengths` are those of the others.
use Rattle.std.specs.Prelude.{ℕ, Bool, List, eqb, leb, ltb}
use Rattle.answers.specs.Limits.{max_vertices}
use Rattle.answers.specs.Choice.{pick, both, all?}
use Rattle.answers.specs.declared.answer.Refusal.{Refusal}
use Rattle.answers.specs.declared.answer.Refusal.TheVariants.{BadSize, BadVertex}

-- no "table not of length n"
abbrev pub lengths? : ℕ → List ℕ → Bool
lengths? n lengths = all? (λ l. eqb l n) lengths

-- 1 BadSize is given when "n .. beyond its limit, or a table not of length n"
abbrev pub sized? : ℕ → List ℕ → Bool
sized? n lengths = both (leb 1 n) (both (leb n max_vertices) (lengths? n lengths))

-- 4 BadVertex is given when "a vertex argument of a query is n or more"
abbrev pub vertices? : ℕ → List ℕ → Bool
vertices? n vertices = all? (λ v. ltb v n) vertices

-- "A query tests 1, then 4": the refusal that comes before any entry is read, or the answer
abbrev pub asked_of : {A : Type 0} → ℕ → (lengths vertices : List ℕ) → (Refusal → A) → A → A
asked_of n lengths vertices refused answer =
    pick (sized? n lengths) (pick (vertices? n vertices) answer (refused BadVertex)) (refused BadSize)
