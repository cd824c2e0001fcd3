-- The entries of a list that pass a test: which they are, that they do not repeat, and that they rise.
use Prim.Native.Nat.{ℕ}
use mathlib.Core.Path.{◌≡◌, refl, sym, ap, ◌∙◌}
use mathlib.Core.Logic.{inl, inr, ⊎_elim, ◌↔◌}
use mathlib.Core.Bool.{Bool, true, false, true≢false}
use mathlib.Core.List.{List, [], ◌∷◌}
use Rattle.paths.specs.Lists.{keep}
use Rattle.paths.specs.Walk.{In, NoDup}
use Rattle.paths.proofs.Listed.{out_of, out_not}
use Rattle.paths.proofs.Rising.{Above, Rises, above_in, above_of}

-- an entry that passes the test is kept
pub keep_true : (t : ℕ → Bool) (x : ℕ) (l : List ℕ) → t x ≡ true → keep t (x ∷ l) ≡ x ∷ keep t l
keep_true t x l e = rw (e, keep)

-- one that does not is left out
pub keep_false : (t : ℕ → Bool) (x : ℕ) (l : List ℕ) → t x ≡ false → keep t (x ∷ l) ≡ keep t l
keep_false t x l e = rw (e, keep)

-- the kept entries are those that pass the test
pub keep_in : (t : ℕ → Bool) (l : List ℕ) (v : ℕ) → In v (keep t l) ↔ (In v l × (t v ≡ true))
keep_in t [] v = (λ h. absurd h, λ h. absurd h.0)
keep_in t (x ∷ l) v = go (t x) refl (keep_in t l v)
  where
    go : (b : Bool) → t x ≡ b → In v (keep t l) ↔ (In v l × (t v ≡ true)) → In v (keep t (x ∷ l)) ↔ (In v (x ∷ l) × (t v ≡ true))
    go true e ih = rw (keep_true t x l e) (
      ⊎_elim (λ q. (inl q, ap t q ∙ e)) (λ h. (inr (ih.0 h).0, (ih.0 h).1)),
      λ h. ⊎_elim inl (λ i. inr (ih.1 (i, h.1))) h.0,
    )
    go false e ih = rw (keep_false t x l e) (
      λ h. (inr (ih.0 h).0, (ih.0 h).1),
      λ h. ⊎_elim (λ q. absurd (true≢false (sym h.1 ∙ ap t q ∙ e))) (λ i. ih.1 (i, h.1)) h.0,
    )

-- what does not repeat does not repeat when filtered
pub keep_once : (t : ℕ → Bool) (l : List ℕ) → NoDup l → NoDup (keep t l)
keep_once t [] d = tt
keep_once t (x ∷ l) d = go (t x) refl (keep_once t l d.1)
  where
    go : (b : Bool) → t x ≡ b → NoDup (keep t l) → NoDup (keep t (x ∷ l))
    go true e ih = rw (keep_true t x l e) (out_of x (keep t l) (λ h. out_not x l d.0 ((keep_in t l x).0 h).0), ih)
    go false e ih = rw (keep_false t x l e) ih

-- tests that agree on a list keep the same of it
pub keep_ext : (s t : ℕ → Bool) (l : List ℕ) → ((v : ℕ) → In v l → s v ≡ t v) → keep s l ≡ keep t l
keep_ext s t [] f = refl
keep_ext s t (x ∷ l) f = go (t x) refl (keep_ext s t l (λ v h. f v (inr h)))
  where
    go : (b : Bool) → t x ≡ b → keep s l ≡ keep t l → keep s (x ∷ l) ≡ keep t (x ∷ l)
    go true e ih = rw (keep_true s x l (f x (inl refl) ∙ e), keep_true t x l e, ih)
    go false e ih = rw (keep_false s x l (f x (inl refl) ∙ e), keep_false t x l e, ih)

-- kept entries of a rising list rise
keep-above : (t : ℕ → Bool) (x : ℕ) (l : List ℕ) → Above x l → Above x (keep t l)
keep-above t x l a = above_of x (keep t l) (λ y i. above_in x y l a ((keep_in t l y).0 i).0)

pub keep_rises : (t : ℕ → Bool) (l : List ℕ) → Rises l → Rises (keep t l)
keep_rises t [] r = tt
keep_rises t (x ∷ l) r = cases (t x) refl (keep_rises t l r.1)
  where
    cases : (b : Bool) → t x ≡ b → Rises (keep t l) → Rises (keep t (x ∷ l))
    cases true e ih = rw (keep_true t x l e) (keep-above t x l r.0, ih)
    cases false e ih = rw (keep_false t x l e) ih
