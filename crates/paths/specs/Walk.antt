-- Walks and simple paths over the lists of a graph. A path from u is u and the list of what follows it, so that joining two paths is
-- joining their lists.
use Rattle.std.specs.Prelude.{ℕ, ◌<◌, ◌≡◌, ◌⊎◌, ◌≢◌, List, [], ◌∷◌}

-- x stands in a list
abbrev pub In : ℕ → List ℕ → Type 0
In x [] = ⊥
In x (y ∷ l) = (x ≡ y) ⊎ In x l

-- x stands nowhere in a list
abbrev pub Out : ℕ → List ℕ → Type 0
Out x [] = Unit {0}
Out x (y ∷ l) = (x ≢ y) × Out x l

-- no entry twice in a list
abbrev pub NoDup : List ℕ → Type 0
NoDup [] = Unit {0}
NoDup (x ∷ l) = Out x l × NoDup l

-- every entry of a list is below n
abbrev pub Below : ℕ → List ℕ → Type 0
Below n [] = Unit {0}
Below n (x ∷ l) = (x < n) × Below n l

-- v stands in u's list, where A u is the list of u
abbrev pub Stands : (ℕ → List ℕ) → ℕ → ℕ → Type 0
Stands A u v = In v (A u)

-- a walk from u to v: each vertex of P stands in the list of the one before it, u coming before the first, and the last is v
abbrev pub From : (ℕ → ℕ → Type 0) → ℕ → ℕ → List ℕ → Type 0
From E u v [] = u ≡ v
From E u v (w ∷ P) = E u w × From E w v P

-- u ∷ P is a simple path from u to v among the vertices below n
pub record Simple (n : ℕ) (E : ℕ → ℕ → Type 0) (u v : ℕ) (P : List ℕ) : Type 0 where
  pub walk : From E u v P
  pub once : NoDup (u ∷ P)
  pub below : Below n (u ∷ P)
