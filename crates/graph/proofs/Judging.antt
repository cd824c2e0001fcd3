-- Laws of judging: a test's answer, and the first test that is not passed.
use Prim.Native.Nat.{ℕ, ◌≤◌}
use mathlib.Core.Path.{◌≡◌, refl, sym, ◌∙◌}
use native.Mathlib.Omega.{arith}
use mathlib.Core.Logic.{inl, inr, by_cases, ◌≢◌}
use native.Mathlib.Decide.{dec_le}
use mathlib.Core.Bool.{Bool, true, false, not, true≢false}
use mathlib.Core.List.{List, [], ◌∷◌}
use lib.Dec.{leb, eqb}
use borrow.Author.Tests.{leb-true, leb-false, eqb-true, eqb-false, not-true, not-false}
use lib.ListN.{length}
use Rattle.graph.specs.Judgement.{Test, First, Decides}
use Rattle.answers.specs.Limits.{max_vertices, max_targets}
use Rattle.answers.specs.Codes.{done}
use Rattle.answers.specs.Answers.{refusal_code}
use Rattle.answers.specs.declared.answer.Refusal.{Refusal}
use Rattle.answers.specs.declared.answer.Refusal.TheVariants.{BadSize, NoRoom, BadOffsets, BadVertex, BadRoot, NotSymmetric, Disconnected, HasCycle, BadTable, TooFar}
use Rattle.graph.specs.Lent.{vertices}
use Rattle.graph.specs.Validation.{Sized, Leaves}

pub decides_yes : {P : Type 0} → P → Decides P true
decides_yes p = record { right = λ e. p; wrong = λ e. absurd (true≢false e) }

pub decides_no : {P : Type 0} → (P → ⊥) → Decides P false
decides_no np = record { right = λ e. absurd (true≢false (sym e)); wrong = λ e. np }

-- a comparison decides what it is equivalent to
pub decides_leb : {P : Type 0} (a b : ℕ) → (a ≤ b → P) → (P → a ≤ b) → Decides P (leb a b)
decides_leb a b to back = record { right = λ e. to (leb-true a b e); wrong = λ e p. (let h = leb-false a b e in let k = back p in omega arith) }

pub decides_eqb : {P : Type 0} (a b : ℕ) → (a ≡ b → P) → (P → a ≡ b) → Decides P (eqb a b)
decides_eqb a b to back = record { right = λ e. to (eqb-true a b e); wrong = λ e p. eqb-false a b e (back p) }

-- an answer tells that it is right
pub decides_true : {P : Type 0} {r : Bool} → Decides P r → P → r ≡ true
decides_true {P} {r} d p = sure r refl
  where
    sure : (b : Bool) → r ≡ b → r ≡ true
    sure true e = e
    sure false e = absurd (d.wrong e p)

-- what a test that is asked the other way round says
pub passed : {P : Type 0} {r : Bool} → Decides P r → not r ≡ false → P
passed {P} {r} d e = d.right (not-false r e)

pub failed : {P : Type 0} {r : Bool} → Decides P r → not r ≡ true → P → ⊥
failed {P} {r} d e = d.wrong (not-true r e)

-- no refusal has the code of what is answered
pub refused_code : (r : Refusal) → refusal_code r ≢ done
refused_code BadSize e = cc
refused_code NoRoom e = cc
refused_code BadOffsets e = cc
refused_code BadVertex e = cc
refused_code BadRoot e = cc
refused_code NotSymmetric e = cc
refused_code Disconnected e = cc
refused_code HasCycle e = cc
refused_code BadTable e = cc
refused_code TooFar e = cc

-- the first test not passed gives one code
pub first_one : (ts : List Test) {c d : ℕ} → First ts c → First ts d → c ≡ d
first_one [] p q = p ∙ sym q
first_one (t ∷ ts) (inl p) (inl q) = p.1 ∙ sym q.1
first_one (t ∷ ts) (inl p) (inr q) = absurd (p.0 q.0)
first_one (t ∷ ts) (inr p) (inl q) = absurd (q.0 p.0)
first_one (t ∷ ts) (inr p) (inr q) = first_one ts p.1 q.1

-- what a call leaves in work is determined
pub leaves-one : {sized : Type 0} {room : ℕ} {w w₁ w₂ : List ℕ} → Dec sized → Leaves sized room w w₁ → Leaves sized room w w₂ → w₁ ≡ w₂
leaves-one {sized} {room} {w} d p q =
    by_cases d
    (λ s. by_cases (dec_le room (length w)) (λ r. p.zeroed s r ∙ sym (q.zeroed s r)) (λ n. p.kept (λ k. n k.1) ∙ sym (q.kept (λ k. n k.1))))
    (λ n. p.kept (λ k. n k.0) ∙ sym (q.kept (λ k. n k.0)))

-- whether the sizes are within their limits
pub sized? : (os ts : List ℕ) → Dec (Sized os ts)
sized? os ts =
    by_cases (dec_le 1 (vertices os))
    (λ a. by_cases (dec_le (vertices os) max_vertices)
    (λ b. by_cases (dec_le (length ts) max_targets) (λ c. yes (record { some_vertex = a; few_vertices = b; few_targets = c })) (λ n. no (λ s. n s.few_targets)))
    (λ n. no (λ s. n s.few_vertices)))
    (λ n. no (λ s. n s.some_vertex))
