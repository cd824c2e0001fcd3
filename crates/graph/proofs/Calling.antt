-- Laws of a call that takes a graph: from its beginning to its end, and that its contract determines what it answers and leaves.
use Prim.Native.Nat.{ℕ, ◌≤◌}
use native.Mathlib.Omega.{arith}
use native.Mathlib.Decide.{ℕ_discrete}
use mathlib.Core.Path.{◌≡◌, refl, sym, subst, ◌∙◌}
use mathlib.Core.Logic.{inl, inr, by_cases, ◌≢◌, ◌↔◌}
use mathlib.Core.Bool.{Bool, true}
use mathlib.Core.List.{List, []}
use lib.ListN.{length}
use Rattle.answers.specs.Codes.{done}
use Rattle.graph.specs.Judgement.{Test, First, Decides}
use Rattle.graph.specs.Validation.{Sized, Fits, room_of, opening, GraphCall}
use Rattle.graph.specs.Steps.{Begun, GraphPart}
use Rattle.graph.specs.Work.{Only, Zeroed}
use Rattle.graph.proofs.Frames.{zeroed-cleared}
use Rattle.graph.proofs.Judging.{first_one, leaves-one, sized?, decides_true}

-- whether the sizes and the tables fit
pub fits? : (os ts : List ℕ) {long : Type 0} → Dec long → Dec (Fits os ts long)
fits? os ts d =
    by_cases (sized? os ts)
    (λ s. by_cases d (λ l. yes (record { sized = s; tables = l })) (λ f. no (λ x. f x.tables)))
    (λ f. no (λ x. f x.sized))

-- what `begin` is told of the tables: the answer b of a test of their lengths
pub fits_told : {os ts : List ℕ} {long : Type 0} {b : Bool} → Decides long b → Fits os ts long ↔ Fits os ts (b ≡ true)
fits_told d = (
  λ f. record { sized = f.sized; tables = decides_true d f.tables },
  λ f. record { sized = f.sized; tables = d.right f.tables },
)

-- or that there are none
pub no_tables : {os ts : List ℕ} → Sized os ts ↔ Fits os ts (true ≡ true)
no_tables = (λ s. record { sized = s; tables = refl }, λ f. f.sized)

-- work is as long as at the beginning
pub still_begun : {os ts w w₁ : List ℕ} → Begun os ts w → Only 0 (room_of os ts) w w₁ → Begun os ts w₁
still_begun b o = record { sized = b.sized; room = (let r = b.room in let l = o.same_length in omega arith) }

-- after `begin` answered 0, told of the tables by b, these fit
pub begun_fits : {os ts : List ℕ} {b : Bool} {roomy : Type 0} {c : ℕ} → First (opening (Fits os ts (b ≡ true)) roomy []) c → c ≡ done
    → Fits os ts (b ≡ true)
begun_fits (inl p) z = absurd (let e = p.1 in omega arith)
begun_fits (inr p) z = p.0

-- and work is long enough
pub begun : {os ts w : List ℕ} {b : Bool} {c : ℕ} → First (opening (Fits os ts (b ≡ true)) (room_of os ts ≤ length w) []) c → c ≡ done → Begun os ts w
begun (inl p) z = absurd (let e = p.1 in omega arith)
begun (inr (f, inl p)) z = absurd (let e = p.1 in omega arith)
begun (inr (f, inr p)) z = record { sized = f.sized; room = p.0 }

-- a call that `begin` refuses leaves all as it was
pub not_begun :
    {M : Type 0} {os ts : List ℕ} {fits roomy : Type 0} {rest : List Test} {Written : M → Type 0} {lent : M} {w : List ℕ} {b : Bool} {c : ℕ}
    → fits ↔ Fits os ts (b ≡ true) → (roomy → room_of os ts ≤ length w)
    → First (opening (Fits os ts (b ≡ true)) (room_of os ts ≤ length w) []) c → c ≢ done
    → GraphCall os ts fits (opening fits roomy rest) Written lent lent w w c
not_begun told enough (inl p) ne =
    record {
      code = inl ((λ f. p.0 (told.0 f)), p.1);
      written = λ z. absurd (ne z);
      refused = λ d. refl;
      work = record { zeroed = λ f r. absurd (p.0 (told.0 f)); kept = λ k. refl };
    }
not_begun told enough (inr (f, inl p)) ne =
    record {
      code = inr (told.1 f, inl ((λ r. p.0 (enough r)), p.1));
      written = λ z. absurd (ne z);
      refused = λ d. refl;
      work = record { zeroed = λ f r. absurd (p.0 r); kept = λ k. refl };
    }
not_begun told enough (inr (f, inr p)) ne = absurd (ne p.1)

-- a call that was begun, went on and ended with `finish`
pub whole_call :
    {M : Type 0} {os ts : List ℕ} {fits roomy : Type 0} {rest : List Test} {Written : M → Type 0} {lent left : M} {w w₁ w₂ : List ℕ} {c : ℕ}
    → fits → roomy → Begun os ts w → GraphPart os ts rest Written lent left w w₁ c → Zeroed 0 (room_of os ts) w₁ w₂
    → GraphCall os ts fits (opening fits roomy rest) Written lent left w w₂ c
whole_call f r b p z =
    record {
      code = inr (f, inr (r, p.code));
      written = p.written;
      refused = p.refused;
      work = record { zeroed = λ f r. zeroed-cleared r p.only z; kept = λ k. absurd (k (f, b.room)) };
    }

-- two results that a call's contract allows coincide: the code, the memory that it was lent, and all of work. What is written need be determined only
-- where all tests are passed.
pub graph_call-one :
    {M : Type 0} {os ts : List ℕ} {fits : Type 0} {tests : List Test} {Written : M → Type 0} {lent left₁ left₂ : M} {w w₁ w₂ : List ℕ} {c₁ c₂ : ℕ}
    → Dec fits → (First tests done → Written left₁ → Written left₂ → left₁ ≡ left₂)
    → GraphCall os ts fits tests Written lent left₁ w w₁ c₁ → GraphCall os ts fits tests Written lent left₂ w w₂ c₂
    → (c₁ ≡ c₂) × (left₁ ≡ left₂) × (w₁ ≡ w₂)
graph_call-one {tests = tests} {c₁ = c₁} {c₂ = c₂} d one p q =
    let same : c₁ ≡ c₂ = first_one tests p.code q.code in (
      same,
      by_cases (ℕ_discrete c₁ done)
          (λ z. one (subst (First tests) z p.code) (p.written z) (q.written (sym same ∙ z)))
          (λ f. p.refused f ∙ sym (q.refused (λ z. f (same ∙ z)))),
      leaves-one d p.work q.work,
    )
