-- The heaviest of a list is an entry of greatest size.
use Prim.Native.Nat.{ℕ, ◌≤◌, ◌<◌}
use native.Mathlib.Omega.{arith}
use native.Mathlib.Decide.{dec_lt}
use mathlib.Core.Path.{◌≡◌, refl, sym, ap, subst, ◌∙◌}
use mathlib.Core.Logic.{inl, inr, ⊎_elim}
use mathlib.Core.List.{List, [], ◌∷◌}
use borrow.Author.Tests.{lt-ltb, le-ltb}
use Rattle.paths.specs.Walk.{In}
use Rattle.numbering.specs.RuleOne.{heaviest}

-- a heavier entry takes the place of the first
pub heaviest_next : (size : ℕ → ℕ) (x y : ℕ) (l : List ℕ) → size x < size y → heaviest size x (y ∷ l) ≡ heaviest size y l
heaviest_next size x y l h = rw (lt-ltb (size x) (size y) h, heaviest)

-- one that is no heavier does not
pub heaviest_stays : (size : ℕ → ℕ) (x y : ℕ) (l : List ℕ) → size y ≤ size x → heaviest size x (y ∷ l) ≡ heaviest size x l
heaviest_stays size x y l h = rw (le-ltb (size x) (size y) h, heaviest)

-- the heaviest of a list stands in it
pub heaviest_in : (size : ℕ → ℕ) (x : ℕ) (l : List ℕ) → In (heaviest size x l) (x ∷ l)
heaviest_in size x [] = inl refl
heaviest_in size x (y ∷ l) = go (dec_lt (size x) (size y)) (heaviest_in size x l) (heaviest_in size y l)
  where
    go : Dec (size x < size y) → In (heaviest size x l) (x ∷ l) → In (heaviest size y l) (y ∷ l) → In (heaviest size x (y ∷ l)) (x ∷ (y ∷ l))
    go (yes h) i j = subst (λ z. In z (x ∷ (y ∷ l))) (sym (heaviest_next size x y l h)) (inr j)
    go (no h) i j =
        subst (λ z. In z (x ∷ (y ∷ l))) (sym (heaviest_stays size x y l (omega arith))) (⊎_elim inl (λ k. inr (inr k)) i)

-- no entry is heavier
pub heaviest_most : (size : ℕ → ℕ) (x : ℕ) (l : List ℕ) (v : ℕ) → In v (x ∷ l) → size v ≤ size (heaviest size x l)
heaviest_most size x [] v (inl e) = let z = ap size e in omega arith
heaviest_most size x [] v (inr h) = absurd h
heaviest_most size x (y ∷ l) v i = go (dec_lt (size x) (size y)) (heaviest_most size x l) (heaviest_most size y l) i
  where
    go :
        Dec (size x < size y)
        → ((v : ℕ) → In v (x ∷ l) → size v ≤ size (heaviest size x l))
        → ((v : ℕ) → In v (y ∷ l) → size v ≤ size (heaviest size y l))
        → In v (x ∷ (y ∷ l))
        → size v ≤ size (heaviest size x (y ∷ l))
    go (yes h) f g (inl e) = let z = ap size e in let m = g y (inl refl) in rw (heaviest_next size x y l h) (omega arith)
    go (yes h) f g (inr k) = rw (heaviest_next size x y l h) (g v k)
    go (no h) f g (inl e) = rw (heaviest_stays size x y l (omega arith)) (f v (inl e))
    go (no h) f g (inr (inl e)) = let z = ap size e in let m = f x (inl refl) in rw (heaviest_stays size x y l (omega arith)) (omega arith)
    go (no h) f g (inr (inr k)) = rw (heaviest_stays size x y l (omega arith)) (f v (inr k))

-- sizes that agree on a list have the same heaviest entry
pub heaviest_ext : (size size' : ℕ → ℕ) (x : ℕ) (l : List ℕ) → ((v : ℕ) → In v (x ∷ l) → size v ≡ size' v) → heaviest size x l ≡ heaviest size' x l
heaviest_ext size size' x [] f = refl
heaviest_ext size size' x (y ∷ l) f =
    let a = f x (inl refl) in
    let b = f y (inr (inl refl)) in
    go (dec_lt (size x) (size y)) (heaviest_ext size size' x l (λ v h. f v (⊎_elim inl (λ k. inr (inr k)) h))) (heaviest_ext size size' y l (λ v h. f v (inr h))) a b
  where
    go :
        Dec (size x < size y)
        → heaviest size x l ≡ heaviest size' x l
        → heaviest size y l ≡ heaviest size' y l
        → size x ≡ size' x
        → size y ≡ size' y
        → heaviest size x (y ∷ l) ≡ heaviest size' x (y ∷ l)
    go (yes h) p q a b = heaviest_next size x y l h ∙ q ∙ sym (heaviest_next size' x y l (omega arith))
    go (no h) p q a b = heaviest_stays size x y l (omega arith) ∙ p ∙ sym (heaviest_stays size' x y l (omega arith))
