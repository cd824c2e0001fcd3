-- Laws of the tests before a query: what they answer, and what it tells a query that they were passed.
use Rattle.std.specs.Prelude.{Result, Ok, Err}
use Prim.Native.Nat.{ℕ, ◌≤◌, ◌<◌}
use native.Mathlib.Omega.{arith}
use mathlib.Core.Path.{◌≡◌, sym, ◌∙◌}
use mathlib.Core.Bool.{true}
use mathlib.Core.List.{List, ◌∷◌}
use lib.Dec.{eqb, ltb}
use lib.ListN.{length}
use borrow.Author.Tests.{ltb-true, eqb-true}
use Rattle.tables.specs.Tables.{Six}
use Rattle.answers.specs.Limits.{max_vertices, no_parent}
use Rattle.answers.specs.Asked.{vertices?}
use Rattle.answers.specs.declared.answer.Refusal.{Refusal}
use Rattle.answers.proofs.Choices.{both_true}
use Rattle.answers.proofs.Bounds.{vertices_parents}
use Rattle.answers.proofs.Passed.{asked_answer, asked_ready, asked_refused, sizes}
use Rattle.climb.specs.Asked.{size_of, others_of, tables?, asked}
use Rattle.climb.specs.Inner.{Even}

-- both tests were passed
pub record Passed (t : Six) (vs : List ℕ) : Type 0 where
  pub tables : tables? t ≡ true
  pub vertices : vertices? (size_of t) vs ≡ true

pub tests_passed : (t : Six) (vs : List ℕ) → Ok (tt {0}) ≡ asked t vs Err (Ok (tt {0})) → Passed t vs
tests_passed t vs e =
    let b = asked_ready (size_of t) (others_of t) vs (sym e) in
    record { tables = b.0; vertices = b.1 }

-- a refusal is handed on
pub tests_refused : {A : Type 0} (t : Six) (vs : List ℕ) (f : Refusal → A) (x : A) {r : Refusal} → Err r ≡ asked t vs Err (Ok (tt {0})) → f r ≡ asked t vs f x
tests_refused t vs f x e = asked_refused (size_of t) (others_of t) vs f x (sym e)

-- the lengths, once the tables were passed
pub record Lengths (t : Six) : Type 0 where
  pub some : 1 ≤ size_of t
  pub few : size_of t ≤ max_vertices
  pub even : Even t
  pub order : length t.order ≡ size_of t
  pub size : length t.size ≡ size_of t

pub lengths : {t : Six} {vs : List ℕ} → Passed t vs → Lengths t
lengths {t} {vs} p =
    let z = sizes (size_of t) (others_of t) p.tables in
    let d = both_true (eqb (length t.depth) (size_of t)) _ z.same in
    let h = both_true (eqb (length t.head) (size_of t)) _ d.1 in
    let i = both_true (eqb (length t.id) (size_of t)) _ h.1 in
    let o = both_true (eqb (length t.order) (size_of t)) _ i.1 in
    let s = both_true (eqb (length t.size) (size_of t)) _ o.1 in
    record {
      some = z.some;
      few = z.few;
      even = record { depth = eqb-true _ _ d.0; head = eqb-true _ _ h.0; id = eqb-true _ _ i.0 };
      order = eqb-true _ _ o.0;
      size = eqb-true _ _ s.0;
    }

-- the first vertex argument is below n, and the others were passed too
pub first_below : {t : Six} {u : ℕ} {vs : List ℕ} → Passed t (u ∷ vs) → u < size_of t
first_below {t} {u} {vs} p = ltb-true u (size_of t) (both_true (ltb u (size_of t)) _ p.vertices).0

pub others : {t : Six} {u : ℕ} {vs : List ℕ} → Passed t (u ∷ vs) → Passed t vs
others {t} {u} {vs} p = record { tables = p.tables; vertices = (both_true (ltb u (size_of t)) _ p.vertices).1 }

-- what passed its tests answers what it is asked
pub answered_by : {A : Type 0} {t : Six} {vs : List ℕ} → Passed t vs → (f : Refusal → A) {a x : A} → a ≡ x → a ≡ asked t vs f x
answered_by {A} {t} {vs} p f {a} {x} e = e ∙ asked_answer (size_of t) (others_of t) vs f x p.tables p.vertices

pub answered : {A : Type 0} {t : Six} {vs : List ℕ} → Passed t vs → {a x : Result A Refusal} → a ≡ x → a ≡ asked t vs Err x
answered p e = answered_by p Err e

-- no vertex is the number that says "no parent"
pub few_parent : {n : ℕ} → n ≤ max_vertices → n ≤ no_parent
few_parent h = let p = vertices_parents in omega arith
