-- The tests 1 to 6 of a validation tell what they test, so the code computed from them is the one that the contract gives.
use Prim.Native.Nat.{ℕ, ◌+◌, ◌≤◌, ◌<◌}
use native.Mathlib.Omega.{arith}
use mathlib.Core.Path.{◌≡◌, refl, sym, ◌∙◌, subst}
use mathlib.Core.Logic.{◌↔◌, inl, inr}
use mathlib.Core.Bool.{Bool, true, false, false≢true}
use mathlib.Core.List.{List, [], ◌∷◌}
use lib.ListN.{length}
use borrow.Author.Tests.{eqb-true, leb-true, ltb-true, eq-eqb, le-leb, lt-ltb}
use Rattle.sums.specs.Sum.{at, count}
use Rattle.paths.specs.Tree.{Symmetric}
use Rattle.answers.specs.Limits.{max_vertices, max_targets}
use Rattle.graph.specs.Judgement.{Test, First}
use Rattle.graph.specs.Lent.{vertices, list_of, Offsets, Targets}
use Rattle.graph.specs.Validation.{Sized, room_of, validation}
use Rattle.graph.proofs.Judging.{first_one}
use Rattle.answers.specs.Choice.{pick}
use Rattle.pcases.specs.Cases.{Graph, Gives, HasCode}
use Rattle.pcases.specs.Checks.{all}
use Rattle.pcases.specs.GraphChecks.{sized_tests, offsets_tests, targets?, symmetric?, Verdict, verdicts, first_code}
use Rattle.pcases.proofs.Checking.{all_iff, below_iff}

-- test 1
pub sized_iff : (os ts : List ℕ) → (all (sized_tests os ts) ≡ true) ↔ Sized os ts
sized_iff os ts = (
  λ e. (let p = (all_iff (sized_tests os ts)).0 e in
      record {
        some_vertex = leb-true 1 (vertices os) p.0;
        few_vertices = leb-true (vertices os) max_vertices p.1.0;
        few_targets = leb-true (length ts) max_targets p.1.1.0;
      }),
  λ s. (all_iff (sized_tests os ts)).1 (le-leb _ _ s.some_vertex, (le-leb _ _ s.few_vertices, (le-leb _ _ s.few_targets, tt))),
)

-- test 3
pub offsets_iff : (os ts : List ℕ) → (all (offsets_tests os ts) ≡ true) ↔ Offsets os ts
offsets_iff os ts = (
  λ e. (let p = (all_iff (offsets_tests os ts)).0 e in
      record {
        first = eqb-true (at os 0) 0 p.0;
        rise = λ u h. leb-true (at os u) (at os (u + 1)) ((below_iff (vertices os) _).0 p.1.0 u h);
        last = eqb-true (at os (vertices os)) (length ts) p.1.1.0;
      }),
  λ o. (all_iff (offsets_tests os ts)).1 (eq-eqb _ _ o.first, ((below_iff _ _).1 (λ u h. le-leb _ _ (o.rise u h)), (eq-eqb _ _ o.last, tt))),
)

-- test 4
pub targets_iff : (os ts : List ℕ) → (targets? os ts ≡ true) ↔ Targets os ts
targets_iff os ts = (
  λ e i h. ltb-true (at ts i) (vertices os) ((below_iff (length ts) _).0 e i h),
  λ t. (below_iff (length ts) _).1 (λ i h. lt-ltb (at ts i) (vertices os) (t i h)),
)

-- test 6
symmetric_iff : (n : ℕ) (A : ℕ → List ℕ) → (symmetric? n A ≡ true) ↔ Symmetric n A
symmetric_iff n A = (
  λ e u v hu hv. eqb-true (count v (A u)) (count u (A v)) ((below_iff n _).0 ((below_iff n _).0 e u hu) v hv),
  λ s. (below_iff n _).1 (λ u hu. (below_iff n _).1 (λ v hv. eq-eqb (count v (A u)) (count u (A v)) (s u v hu hv))),
)

-- each verdict is on the test at its place, by that test's code
abbrev Judge : List Test → List Verdict → Type 0
Judge ts [] = Unit {0}
Judge [] (x ∷ l) = ⊥
Judge (t ∷ ts) (x ∷ l) = (t.code ≡ x.0) × ((x.1 ≡ true) ↔ t.passed) × Judge ts l

-- where some verdict is a refusal, the first such gives the code
verdict_first : (ts : List Test) (l : List Verdict) → Judge ts l → 0 < first_code l → First ts (first_code l)
verdict_first ts [] j p = absurd (omega arith)
verdict_first [] (x ∷ l) j p = absurd j
verdict_first (t ∷ ts) (x ∷ l) j p = go x.1 refl (verdict_first ts l j.2) p
  where
    go : (b : Bool) → x.1 ≡ b → (0 < first_code l → First ts (first_code l)) → 0 < pick b (first_code l) x.0
        → First (t ∷ ts) (pick b (first_code l) x.0)
    go true e ih p = inr (j.1.0 e, ih p)
    go false e ih p = inl ((λ q. false≢true (sym e ∙ j.1.1 q)), sym j.0)

-- the verdicts are on the tests of the validation
verdicts_judge : (os ts : List ℕ) (root room : ℕ) → room_of os ts ≤ room → Judge (validation os ts root room) (verdicts os ts root)
verdicts_judge os ts root room r = (
  refl,
  sized_iff os ts,
  (
    refl,
    (λ e. r, λ h. refl),
    (
      refl,
      offsets_iff os ts,
      (
        refl,
        targets_iff os ts,
        (
          refl,
          (ltb-true root (vertices os), lt-ltb root (vertices os)),
          (refl, symmetric_iff (vertices os) (list_of os ts), tt),
        ),
      ),
    ),
  ),
)

-- the test of a refusal is right
pub refusal_right : (g : Graph) (root code : ℕ) → 0 < code → first_code (verdicts g.offsets g.targets root) ≡ code → HasCode g root code
refusal_right g root code p e =
    record {
      gives = gives;
      only = λ w w' c r val. first_one (validation g.offsets g.targets root (length w)) val.code (gives (length w) r);
    }
  where
    gives : Gives g root code
    gives room r =
        subst (First (validation g.offsets g.targets root room)) e
        (verdict_first (validation g.offsets g.targets root room) (verdicts g.offsets g.targets root)
        (verdicts_judge g.offsets g.targets root room r) (omega arith))
