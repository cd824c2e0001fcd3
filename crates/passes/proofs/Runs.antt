-- Laws of runs: the children of a position among the positions from a up to n; and what is kept of a list, by its places.
use Prim.Native.Nat.{ℕ, zero, suc, ◌+◌, ◌-◌, ◌≤◌, ◌<◌}
use native.Mathlib.Omega.{arith}
use mathlib.Core.Path.{◌≡◌, refl, sym, ap, ap₂, ◌∙◌}
use mathlib.Core.Logic.{◌≢◌, ◌⊎◌, inl, inr, ⊎_elim, ◌↔◌}
use mathlib.Core.Bool.{Bool, true, false}
use mathlib.Core.List.{List, [], ◌∷◌, ◌++◌, map, append-nil}
use lib.Dec.{eqb}
use lib.ListN.{length}
use borrow.Author.Tests.{eq-eqb, ne_eqb, eqb-true}
use Rattle.sums.specs.Sum.{at}
use Rattle.sums.proofs.Sums.{equal_or_not}
use Rattle.paths.specs.Walk.{In}
use Rattle.paths.proofs.Rising.{Rises, above_of}
use Rattle.paths.specs.Lists.{keep}
use Rattle.paths.proofs.Kept.{keep_true, keep_false, keep_in}
use Rattle.passes.specs.Passes.{from, run_from, run}

keep_append : (t : ℕ → Bool) (l m : List ℕ) → keep t (l ++ m) ≡ keep t l ++ keep t m
keep_append t [] m = refl
keep_append t (x ∷ l) m = one (t x) refl (keep_append t l m)
  where
    one : (b : Bool) → t x ≡ b → keep t (l ++ m) ≡ keep t l ++ keep t m → keep t (x ∷ (l ++ m)) ≡ keep t (x ∷ l) ++ keep t m
    one true e rest = keep_true t x (l ++ m) e ∙ ap (λ (k : List ℕ). x ∷ k) rest ∙ sym (ap (λ (k : List ℕ). k ++ keep t m) (keep_true t x l e))
    one false e rest = keep_false t x (l ++ m) e ∙ rest ∙ sym (ap (λ (k : List ℕ). k ++ keep t m) (keep_false t x l e))

from-append : (a k m : ℕ) → from a (k + m) ≡ from a k ++ from (a + k) m
from-append a zero m =
    let e : 0 + m ≡ m = omega arith in
    let f : a + 0 ≡ a = omega arith in
    ap (from a) e ∙ sym (ap (λ (b : ℕ). from b m) f)
from-append a (suc k) m =
    let e : suc k + m ≡ suc (k + m) = omega arith in
    let f : suc a + k ≡ a + suc k = omega arith in
    ap (from a) e ∙ ap (λ (l : List ℕ). a ∷ l) (from-append (suc a) k m ∙ ap (λ (b : ℕ). from (suc a) k ++ from b m) f)

-- the numbers of `from`
pub from_in : (a k x : ℕ) → In x (from a k) ↔ ((a ≤ x) × (x < a + k))
from_in a zero x = (λ i. absurd i, λ h. absurd (let p = h.0 in let q = h.1 in omega arith))
from_in a (suc k) x = step (from_in (suc a) k x)
  where
    step : In x (from (suc a) k) ↔ ((suc a ≤ x) × (x < suc a + k)) → ((x ≡ a) ⊎ In x (from (suc a) k)) ↔ ((a ≤ x) × (x < a + suc k))
    step ih = (
      ⊎_elim (λ e. omega arith) (λ i. (let r = ih.0 i in omega arith)),
      λ h. equal_or_not x a (λ e. inl e) (λ d. inr (ih.1 (let p = h.0 in let q = h.1 in omega arith))),
    )

pub from_rises : (a k : ℕ) → Rises (from a k)
from_rises a zero = tt
from_rises a (suc k) = (above_of a (from (suc a) k) (λ y i. (let r = (from_in (suc a) k y).0 i in omega arith)), from_rises (suc a) k)

-- a list's kept entries, read off their places
pub keep_places : (t : ℕ → Bool) (l m : List ℕ) (a : ℕ) → ((k : ℕ) → k < length l → at m (a + k) ≡ at l k) → keep t l ≡ map (at m) (keep (λ k. t (at m k)) (from a (length l)))
keep_places t [] m a h = refl
keep_places t (x ∷ l) m a h = cases (t x) refl (keep_places t l m (suc a) (λ k q. ap (at m) (let e : suc a + k ≡ a + suc k = omega arith in e) ∙ h (suc k) (omega arith)))
  where
    first : at m a ≡ x
    first = ap (at m) (let e : a ≡ a + 0 = omega arith in e) ∙ h 0 (omega arith)

    cases : (b : Bool) → t x ≡ b → keep t l ≡ map (at m) (keep (λ k. t (at m k)) (from (suc a) (length l)))
        → keep t (x ∷ l) ≡ map (at m) (keep (λ k. t (at m k)) (from a (suc (length l))))
    cases true e ih = keep_true t x l e ∙ ap₂ ◌∷◌ (sym first) ih ∙ sym (ap (map (at m)) (keep_true (λ k. t (at m k)) a (from (suc a) (length l)) (ap t first ∙ e)))
    cases false e ih = keep_false t x l e ∙ ih ∙ sym (ap (map (at m)) (keep_false (λ k. t (at m k)) a (from (suc a) (length l)) (ap t first ∙ e)))

-- a list in which nothing stands
nothing_in : (l : List ℕ) → ((x : ℕ) → In x l → ⊥) → l ≡ []
nothing_in [] h = refl
nothing_in (x ∷ l) h = absurd (h x (inl refl))

module _ (p : ℕ → ℕ) (n : ℕ) where
  -- what stands in a run is a child, between a and n
  pub in-run : (a i : ℕ) {x : ℕ} → a ≤ n → In x (run_from p n a i) → (a ≤ x) × (x < n) × (p x ≡ i)
  in-run a i {x} h r =
      let k = (keep_in (λ j. eqb (p j) i) (from a (n - a)) x).0 r in
      let b = (from_in a (n - a) x).0 k.0 in
      (b.0, omega arith, eqb-true (p x) i k.1)

  from_next : (a : ℕ) → a < n → from a (n - a) ≡ a ∷ from (a + 1) (n - (a + 1))
  from_next a h =
      let e : n - a ≡ suc (n - (a + 1)) = omega arith in
      let f : suc a ≡ a + 1 = omega arith in
      ap (from a) e ∙ ap (λ (b : ℕ). a ∷ from b (n - (a + 1))) f

  -- a child is the first of its run
  pub run_child : (a i : ℕ) → a < n → p a ≡ i → run_from p n a i ≡ a ∷ run_from p n (a + 1) i
  run_child a i h e =
      ap (keep (λ k. eqb (p k) i)) (from_next a h) ∙ keep_true (λ k. eqb (p k) i) a (from (a + 1) (n - (a + 1))) (eq-eqb (p a) i e)

  -- and any other position is passed over
  pub run_other : (a i : ℕ) → a < n → p a ≢ i → run_from p n a i ≡ run_from p n (a + 1) i
  run_other a i h d =
      ap (keep (λ k. eqb (p k) i)) (from_next a h) ∙ keep_false (λ k. eqb (p k) i) a (from (a + 1) (n - (a + 1))) (ne_eqb (p a) i d)

  -- behind the last position nothing is left
  pub run_end : (i : ℕ) → run_from p n n i ≡ []
  run_end i =
      let e : n - n ≡ 0 = omega arith in
      ap (λ (k : ℕ). keep (λ j. eqb (p j) i) (from n k)) e

  -- the children before j, then those from j on
  pub run_split : (j i : ℕ) → 1 ≤ j → j ≤ n → run p n i ≡ run p j i ++ run_from p n j i
  run_split j i a b =
      let e : n - 1 ≡ (j - 1) + (n - j) = omega arith in
      let f : 1 + (j - 1) ≡ j = omega arith in
      ap (λ (k : ℕ). keep (λ j. eqb (p j) i) (from 1 k)) e
      ∙ ap (keep (λ j. eqb (p j) i)) (from-append 1 (j - 1) (n - j) ∙ ap (λ (k : ℕ). from 1 (j - 1) ++ from k (n - j)) f)
      ∙ keep_append (λ j. eqb (p j) i) (from 1 (j - 1)) (from j (n - j))

-- one position more: a child of i
pub run_more : (p : ℕ → ℕ) (j i : ℕ) → 1 ≤ j → p j ≡ i → run p (j + 1) i ≡ run p j i ++ (j ∷ [])
run_more p j i a e =
    run_split p (j + 1) j i a (omega arith)
    ∙ ap (λ (l : List ℕ). run p j i ++ l) (run_child p (j + 1) j i (omega arith) e ∙ ap (λ (l : List ℕ). j ∷ l) (run_end p (j + 1) i))

-- or no child of i
pub run_same : (p : ℕ → ℕ) (j i : ℕ) → 1 ≤ j → p j ≢ i → run p (j + 1) i ≡ run p j i
run_same p j i a d =
    run_split p (j + 1) j i a (omega arith)
    ∙ ap (λ (l : List ℕ). run p j i ++ l) (run_other p (j + 1) j i (omega arith) d ∙ run_end p (j + 1) i)
    ∙ append-nil (run p j i)

-- a position has no child up to itself
pub run_none : (p : ℕ → ℕ) (j : ℕ) → ((k : ℕ) → 0 < k → k ≤ j → p k < k) → run p (j + 1) j ≡ []
run_none p j earlier =
    nothing_in (run p (j + 1) j)
    (λ x i.
    let r = in-run p (j + 1) 1 j (omega arith) i in
    let e = r.2 in
    omega (arith, earlier x r.0 (omega arith)))
