-- Rising lists: two with the same entries are one list.
use Prim.Native.Nat.{ℕ, ◌<◌}
use native.Mathlib.Omega.{arith}
use mathlib.Core.Path.{◌≡◌, refl, sym, ap₂}
use mathlib.Core.Logic.{inl, inr, ⊎_elim}
use mathlib.Core.List.{List, [], ◌∷◌}
use Rattle.paths.specs.Walk.{In}

-- every entry is above x
abbrev pub Above : ℕ → List ℕ → Type 0
Above x [] = Unit {0}
Above x (y ∷ l) = (x < y) × Above x l

-- each entry is above the one before it
abbrev pub Rises : List ℕ → Type 0
Rises [] = Unit {0}
Rises (x ∷ l) = Above x l × Rises l

pub above_in : (x y : ℕ) (l : List ℕ) → Above x l → In y l → x < y
above_in x y [] a h = absurd h
above_in x y (z ∷ l) a (inl e) = (let h = a.0 in omega arith)
above_in x y (z ∷ l) a (inr i) = above_in x y l a.1 i

pub above_of : (x : ℕ) (l : List ℕ) → ((y : ℕ) → In y l → x < y) → Above x l
above_of x [] h = tt
above_of x (z ∷ l) h = (h z (inl refl), above_of x l (λ y i. h y (inr i)))

-- the heads of two rising lists with the same entries
same_head : (x y : ℕ) (a b : List ℕ) → Rises (x ∷ a) → Rises (y ∷ b) → In x (y ∷ b) → In y (x ∷ a) → x ≡ y
same_head x y a b ra rb (inl e) j = e
same_head x y a b ra rb (inr i) (inl e) = sym e
same_head x y a b ra rb (inr i) (inr j) = absurd (let p = above_in y x b rb.0 i in let q = above_in x y a ra.0 j in omega arith)

pub rises_same : (a b : List ℕ) → Rises a → Rises b → ((x : ℕ) → In x a → In x b) → ((x : ℕ) → In x b → In x a) → a ≡ b
rises_same [] [] ra rb f g = refl
rises_same [] (y ∷ b) ra rb f g = absurd (g y (inl refl))
rises_same (x ∷ a) [] ra rb f g = absurd (f x (inl refl))
rises_same (x ∷ a) (y ∷ b) ra rb f g =
    ap₂ ◌∷◌ e (rises_same a b ra.1 rb.1
    (λ z i. ⊎_elim (λ q. absurd (let k = above_in x z a ra.0 i in omega (arith, e))) (λ j. j) (f z (inr i)))
    (λ z i. ⊎_elim (λ q. absurd (let k = above_in y z b rb.0 i in omega (arith, e))) (λ j. j) (g z (inr i))))
  where
    e : x ≡ y
    e = same_head x y a b ra rb (f x (inl refl)) (g y (inl refl))
