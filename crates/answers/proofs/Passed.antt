-- Laws of the tests before a query: what they answer, and what it tells a query that they were passed.
use Rattle.std.specs.Prelude.{Result, Ok, Err}
use Rattle.std.specs.Result.{IsErrAnd}
use Rattle.std.proofs.lemmas.Result.{err_from_is_err_and}
use Prim.Native.Nat.{ℕ, ◌≤◌}
use mathlib.Core.Path.{◌≡◌, refl, ap, ◌∙◌}
use mathlib.Core.Bool.{Bool, true, false}
use mathlib.Core.List.{List}
use lib.Dec.{leb}
use borrow.Author.Tests.{leb-true}
use Rattle.answers.specs.Limits.{max_vertices}
use Rattle.answers.specs.Choice.{pick}
use Rattle.answers.specs.Asked.{lengths?, sized?, vertices?, asked_of}
use Rattle.answers.specs.declared.answer.Refusal.{Refusal}
use Rattle.answers.specs.declared.answer.Refusal.TheVariants.{BadSize, BadVertex}
use Rattle.answers.proofs.Choices.{both_true}

module _ {A : Type 0} (n : ℕ) (ls vs : List ℕ) (f : Refusal → A) (x : A) where
  -- Both tests together.

  pub asked_size : sized? n ls ≡ false → f BadSize ≡ asked_of n ls vs f x
  asked_size e = rw e

  pub asked_vertex : sized? n ls ≡ true → vertices? n vs ≡ false → f BadVertex ≡ asked_of n ls vs f x
  asked_vertex e g = rw (e, g)

  pub asked_answer : sized? n ls ≡ true → vertices? n vs ≡ true → x ≡ asked_of n ls vs f x
  asked_answer e g = rw (e, g)

-- What the tests tell a query.

passed : (a b : Bool) → pick a (pick b (Ok (tt {0})) (Err BadVertex)) (Err BadSize) ≡ Ok (tt {0}) → (a ≡ true) × (b ≡ true)
passed true true e = (refl, refl)
passed true false e = cc
passed false b e = cc

stopped : {A : Type 0} (a b : Bool) (f : Refusal → A) (x : A) {r : Refusal}
    → pick a (pick b (Ok (tt {0})) (Err BadVertex)) (Err BadSize) ≡ Err r → f r ≡ pick a (pick b x (f BadVertex)) (f BadSize)
stopped true true f x e = cc
stopped true false f x e = ap f (cc)
stopped false b f x e = ap f (cc)

-- both tests were passed
pub asked_ready : (n : ℕ) (ls vs : List ℕ) → asked_of n ls vs Err (Ok (tt {0})) ≡ Ok (tt {0}) → (sized? n ls ≡ true) × (vertices? n vs ≡ true)
asked_ready n ls vs e = passed (sized? n ls) (vertices? n vs) e

-- a refusal is handed on
pub asked_refused : {A : Type 0} (n : ℕ) (ls vs : List ℕ) (f : Refusal → A) (x : A) {r : Refusal}
    → asked_of n ls vs Err (Ok (tt {0})) ≡ Err r → f r ≡ asked_of n ls vs f x
asked_refused n ls vs f x e = stopped (sized? n ls) (vertices? n vs) f x e

-- n is within its limits, and the other tables are of its length
pub record Sizes (n : ℕ) (ls : List ℕ) : Type 0 where
  pub some : 1 ≤ n
  pub few : n ≤ max_vertices
  pub same : lengths? n ls ≡ true

pub sizes : (n : ℕ) (ls : List ℕ) → sized? n ls ≡ true → Sizes n ls
sizes n ls e =
    let a = both_true (leb 1 n) _ e in
    let b = both_true (leb n max_vertices) _ a.1 in
    record { some = leb-true 1 n a.0; few = leb-true n max_vertices b.0; same = b.1 }

-- what a `?` hands on is the refusal that it met
pub handed_on : {A : Type 0} {e : Refusal} (r : Result A Refusal) → IsErrAnd r (λ x. x ≡ e) → r ≡ Err e
handed_on r f = let p = err_from_is_err_and r f in p.1 ∙ ap Err p.2
