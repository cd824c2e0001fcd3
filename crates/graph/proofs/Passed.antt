-- Lists of tests: a call that answers 0 has passed all of its tests, and what passing the tests 3 to 8 says of a graph.
use Prim.Native.Nat.{ℕ, ◌<◌}
use native.Mathlib.Omega.{arith}
use mathlib.Core.Path.{◌≡◌, refl, subst}
use mathlib.Core.Logic.{inl, inr, ◌≢◌, ◌↔◌}
use mathlib.Core.List.{List, [], ◌∷◌, ◌++◌}
use Rattle.paths.specs.Tree.{AllReached, Tree}
use Rattle.answers.specs.Codes.{done}
use Rattle.graph.specs.Judgement.{Test, test, First}
use Rattle.graph.specs.Lent.{vertices, list_of, Offsets, Targets}
use Rattle.graph.specs.Validation.{graph_tests}
use Rattle.graph.proofs.Judging.{first_one}

-- the tests of a list are all passed
abbrev pub AllPassed : List Test → Type 0
AllPassed [] = Unit {0}
AllPassed (t ∷ ts) = t.passed × AllPassed ts

-- none of their codes is 0
abbrev pub Refusals : List Test → Type 0
Refusals [] = Unit {0}
Refusals (t ∷ ts) = (0 < t.code) × Refusals ts

-- where none of the codes is 0, the answer 0 says that all are passed
pub all_passed : (ts : List Test) → Refusals ts → First ts done → AllPassed ts
all_passed [] r f = tt
all_passed (t ∷ ts) r (inl f) = absurd (let e = f.1 in let p = r.0 in omega arith)
all_passed (t ∷ ts) r (inr f) = (f.0, all_passed ts r.1 f.1)

-- where all tests are passed the answer is 0
pub passed-all : (ts : List Test) → AllPassed ts → First ts done
passed-all [] p = refl
passed-all (t ∷ ts) p = inr (p.0, passed-all ts p.1)

-- 0 is answered exactly if all tests are passed
pub done_exactly : (ts : List Test) → Refusals ts → {c : ℕ} → First ts c → (c ≡ done) ↔ AllPassed ts
done_exactly ts r f = (λ z. all_passed ts r (subst (First ts) z f), λ p. first_one ts f (passed-all ts p))

-- a refusal by the first of two lists of tests
pub first-front : (ts us : List Test) {c : ℕ} → First ts c → c ≢ done → First (ts ++ us) c
first-front [] us f ne = absurd (ne f)
first-front (t ∷ ts) us (inl f) ne = inl f
first-front (t ∷ ts) us (inr f) ne = inr (f.0, first-front ts us f.1 ne)

-- where the first are passed, the second decide
pub first_back : (ts us : List Test) (c : ℕ) → AllPassed ts → First us c → First (ts ++ us) c
first_back [] us c p f = f
first_back (t ∷ ts) us c p f = inr (p.0, first_back ts us c p.1 f)

-- two lists of tests are passed together exactly if each is
pub passed-front : (ts us : List Test) → AllPassed (ts ++ us) → AllPassed ts
passed-front [] us p = tt
passed-front (t ∷ ts) us p = (p.0, passed-front ts us p.1)

pub passed_back : (ts us : List Test) → AllPassed (ts ++ us) → AllPassed us
passed_back [] us p = p
passed_back (t ∷ ts) us p = passed_back ts us p.1

pub passed_join : (ts us : List Test) → AllPassed ts → AllPassed us → AllPassed (ts ++ us)
passed_join [] us p q = q
passed_join (t ∷ ts) us p q = (p.0, passed_join ts us p.1 q)

-- two tests of one code, one after the other, are one test of both
pub tests-joined : {code c : ℕ} {P Q : Type 0} (ts : List Test) → First (test code P ∷ test code Q ∷ ts) c → First (test code (P × Q) ∷ ts) c
tests-joined ts (inl f) = inl ((λ both. f.0 both.0), f.1)
tests-joined ts (inr (p, inl f)) = inl ((λ both. f.0 both.1), f.1)
tests-joined ts (inr (p, inr f)) = inr ((p, f.0), f.1)

-- what a graph has that passes the tests 3 to 8: the other two follow from these
pub record Sound (os ts : List ℕ) (root : ℕ) : Type 0 where
  pub offsets : Offsets os ts
  pub targets : Targets os ts
  pub root_below : root < vertices os
  pub tree : Tree (vertices os) (list_of os ts)

-- in a tree the root reaches every vertex
pub tree_reached : (n : ℕ) (A : ℕ → List ℕ) (root : ℕ) → root < n → Tree n A → AllReached n A root
tree_reached n A root h t v hv = ((t.joined root v h hv).0, (t.joined root v h hv).1.walk)

pub passed_sound : (os ts : List ℕ) (root : ℕ) → AllPassed (graph_tests os ts root) → Sound os ts root
passed_sound os ts root p = record { offsets = p.0; targets = p.1.0; root_below = p.1.1.0; tree = p.1.1.1.1.1.0 }

pub sound_passed : (os ts : List ℕ) (root : ℕ) → Sound os ts root → AllPassed (graph_tests os ts root)
sound_passed os ts root s = (
  s.offsets,
  (
    s.targets,
    (s.root_below, (s.tree.symmetric, (tree_reached (vertices os) (list_of os ts) root s.root_below s.tree, (s.tree, tt)))),
  ),
)

-- a graph for which the tests 3 to 8 answer 0 is sound
pub done_sound : (os ts : List ℕ) (root : ℕ) {c : ℕ} → First (graph_tests os ts root) c → c ≡ done → Sound os ts root
done_sound os ts root f z = passed_sound os ts root ((done_exactly (graph_tests os ts root) (omega arith) f).0 z)
