-- Lists mapped and reversed.
use Prim.Native.Nat.{ℕ}
use mathlib.Core.Path.{◌≡◌, refl}
use mathlib.Core.List.{List, [], ◌∷◌, map, reverse, reverse-cons, map-append}

-- a list reversed and mapped is mapped and reversed
pub map-reverse : (f : ℕ → ℕ) (l : List ℕ) → map f (reverse l) ≡ reverse (map f l)
map-reverse f [] = refl
map-reverse f (x ∷ l) = rw (reverse-cons x l, map-append, map-reverse f l, reverse-cons (f x) (map f l))
