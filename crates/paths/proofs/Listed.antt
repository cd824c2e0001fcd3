-- Membership, repeats, bounds and walks: by the places of a list, and along lists that are joined.
use Prim.Native.Nat.{ℕ, zero, suc, ◌<◌}
use native.Mathlib.Omega.{arith}
use mathlib.Core.Path.{◌≡◌, refl, sym, ap, ap₂, subst}
use mathlib.Core.Logic.{◌⊎◌, inl, inr, ⊎_elim}
use mathlib.Core.List.{List, [], ◌∷◌, ◌++◌, map}
use lib.ListN.{length}
use Rattle.sums.specs.Sum.{at}
use Rattle.paths.specs.Walk.{In, Out, NoDup, Below, From}

-- what stands in the first of two lists stands in both joined
pub in_left : (x : ℕ) (a b : List ℕ) → In x a → In x (a ++ b)
in_left x [] b h = absurd h
in_left x (y ∷ a) b (inl e) = inl e
in_left x (y ∷ a) b (inr h) = inr (in_left x a b h)

-- what stands in the second of two lists stands in both joined
pub in_right : (x : ℕ) (a b : List ℕ) → In x b → In x (a ++ b)
in_right x [] b h = h
in_right x (y ∷ a) b h = inr (in_right x a b h)

-- what stands in two lists joined stands in one of them
pub in_either : (x : ℕ) (a b : List ℕ) → In x (a ++ b) → In x a ⊎ In x b
in_either x [] b h = inr h
in_either x (y ∷ a) b (inl e) = inl (inl e)
in_either x (y ∷ a) b (inr h) = ⊎_elim (λ p. inl (inr p)) inr (in_either x a b h)

-- the last entry stands in the list
pub in_last : (x : ℕ) (a : List ℕ) → In x (a ++ (x ∷ []))
in_last x a = in_right x a (x ∷ []) (inl refl)

-- what stands in a list with one more at its end stands in the list or is the one more
pub in_snoc : (x y : ℕ) (a : List ℕ) → In x (a ++ (y ∷ [])) → In x a ⊎ (x ≡ y)
in_snoc x y a h = ⊎_elim inl (λ p. inr (⊎_elim (λ e. e) absurd p)) (in_either x a (y ∷ []) h)

-- what does not stand in a list is out of it
pub out_of : (x : ℕ) (l : List ℕ) → (In x l → ⊥) → Out x l
out_of x [] f = tt
out_of x (y ∷ l) f = (λ e. f (inl e), out_of x l (λ h. f (inr h)))

-- what is out of a list does not stand in it
pub out_not : (x : ℕ) (l : List ℕ) → Out x l → In x l → ⊥
out_not x [] o h = h
out_not x (y ∷ l) o (inl e) = o.0 e
out_not x (y ∷ l) o (inr h) = out_not x l o.1 h

-- what is out of two lists is out of both joined
pub out-append : (x : ℕ) (a b : List ℕ) → Out x a → Out x b → Out x (a ++ b)
out-append x [] b o q = q
out-append x (y ∷ a) b o q = (o.0, out-append x a b o.1 q)

-- a new entry at the end repeats nothing
pub nodup_snoc : (x : ℕ) (a : List ℕ) → NoDup a → Out x a → NoDup (a ++ (x ∷ []))
nodup_snoc x [] d o = (tt, tt)
nodup_snoc x (y ∷ a) d o = (out-append y a (x ∷ []) d.0 (λ e. o.0 (sym e), tt), nodup_snoc x a d.1 o.1)

-- two lists below n are below n when joined
pub below-append : (n : ℕ) (a b : List ℕ) → Below n a → Below n b → Below n (a ++ b)
below-append n [] b h k = k
below-append n (x ∷ a) b h k = (h.0, below-append n a b h.1 k)

-- what stands in a list below n is below n
pub in-below : (n x : ℕ) (l : List ℕ) → Below n l → In x l → x < n
in-below n x [] b h = absurd h
in-below n x (y ∷ l) b (inl e) = subst (λ (z : ℕ). z < n) (sym e) b.0
in-below n x (y ∷ l) b (inr h) = in-below n x l b.1 h

-- two walks, the second from where the first ends, are one walk
pub from-append : (E : ℕ → ℕ → Type 0) (u w v : ℕ) (a b : List ℕ) → From E u w a → From E w v b → From E u v (a ++ b)
from-append E u w v [] b e h = subst (λ (x : ℕ). From E x v b) (sym e) h
from-append E u w v (x ∷ a) b f h = (f.0, from-append E x w v a b f.1 h)

-- a walk ends on a vertex of it
pub from_last : (E : ℕ → ℕ → Type 0) (u v : ℕ) (a : List ℕ) → From E u v a → In v (u ∷ a)
from_last E u v [] e = inl (sym e)
from_last E u v (x ∷ a) f = inr (from_last E x v a f.1)

-- an entry of a list stands in it
pub at_in : (l : List ℕ) (i : ℕ) → i < length l → In (at l i) l
at_in [] i h = absurd (omega arith)
at_in (x ∷ l) zero h = inl refl
at_in (x ∷ l) (suc i) h = inr (at_in l i (omega arith))

-- what stands in a list is an entry
pub in_at : (x : ℕ) (l : List ℕ) → In x l → (i : ℕ) × (i < length l) × (at l i ≡ x)
in_at x [] h = absurd h
in_at x (y ∷ l) (inl e) = (0, omega arith, sym e)
in_at x (y ∷ l) (inr h) = (let r = in_at x l h in (suc r.0, (let k = r.1 in omega arith), r.2))

-- a list without repeats has each entry at one place
pub nodup_at : (l : List ℕ) → NoDup l → (i j : ℕ) → i < length l → j < length l → at l i ≡ at l j → i ≡ j
nodup_at [] d i j hi hj e = absurd (omega arith)
nodup_at (x ∷ l) d zero zero hi hj e = refl
nodup_at (x ∷ l) d zero (suc j) hi hj e = absurd (out_not x l d.0 (subst (λ (y : ℕ). In y l) (sym e) (at_in l j (omega arith))))
nodup_at (x ∷ l) d (suc i) zero hi hj e = absurd (out_not x l d.0 (subst (λ (y : ℕ). In y l) e (at_in l i (omega arith))))
nodup_at (x ∷ l) d (suc i) (suc j) hi hj e = ap suc (nodup_at l d.1 i j (omega arith) (omega arith) e)

-- functions that agree on a list map it to one
pub map_same : (f g : ℕ → ℕ) (l : List ℕ) → ((x : ℕ) → In x l → f x ≡ g x) → map f l ≡ map g l
map_same f g [] h = refl
map_same f g (x ∷ l) h = ap₂ ◌∷◌ (h x (inl refl)) (map_same f g l (λ y i. h y (inr i)))
