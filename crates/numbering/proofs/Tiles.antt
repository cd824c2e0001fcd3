-- The numbers that a list of siblings takes: one subtree's numbers behind the other's, without a gap.
use Prim.Native.Nat.{ℕ, ◌+◌, ◌*◌, ◌≤◌, ◌<◌}
use native.Mathlib.Omega.{arith}
use native.Mathlib.Decide.{dec_lt}
use mathlib.Core.Path.{◌≡◌, refl, sym, ap, ◌∙◌}
use mathlib.Core.Logic.{◌⊎◌, inl, inr}
use mathlib.Core.List.{List, [], ◌∷◌}
use Rattle.paths.specs.Walk.{In}
use Rattle.numbering.specs.Numbering.{total, Numbered, Light, Chained}

-- the numbers of u's subtree lie before those of v's, or behind them
abbrev pub Apart : (id size : ℕ → ℕ) → ℕ → ℕ → Type 0
Apart id size u v = (id u + size u ≤ id v) ⊎ (id v + size v ≤ id u)

-- which comes first does not matter
pub apart_swap : (id size : ℕ → ℕ) (u v : ℕ) → Apart id size u v → Apart id size v u
apart_swap id size u v (inl h) = inr h
apart_swap id size u v (inr h) = inl h

-- each sibling has its numbers among those of all
pub tile_inside : (id size : ℕ → ℕ) (next : ℕ) (l : List ℕ) (v : ℕ) → Numbered id size next l → In v l
    → (next ≤ id v) × (id v + size v ≤ next + total size l)
tile_inside id size next [] v t h = absurd h
tile_inside id size next (x ∷ l) v t (inl e) = let a = ap id e in let b = ap size e in omega arith
tile_inside id size next (x ∷ l) v t (inr h) = let i = tile_inside id size (next + size x) l v t.1 h in omega arith

-- two siblings are one, or their numbers lie apart
pub tile_apart : (id size : ℕ → ℕ) (next : ℕ) (l : List ℕ) (u v : ℕ) → Numbered id size next l → In u l → In v l → (u ≡ v) ⊎ Apart id size u v
tile_apart id size next [] u v t h i = absurd h
tile_apart id size next (x ∷ l) u v t (inl e) (inl f) = inl (e ∙ sym f)
tile_apart id size next (x ∷ l) u v t (inl e) (inr i) =
    let a = ap id e in
    let b = ap size e in
    let r = tile_inside id size (next + size x) l v t.1 i in
    inr (inl (omega arith))
tile_apart id size next (x ∷ l) u v t (inr h) (inl f) =
    let a = ap id f in
    let b = ap size f in
    let r = tile_inside id size (next + size x) l u t.1 h in
    inr (inr (omega arith))
tile_apart id size next (x ∷ l) u v t (inr h) (inr i) = tile_apart id size (next + size x) l u v t.1 h i

-- each number among those of all is in the subtree of a sibling
pub tile_find : (id size : ℕ → ℕ) (next : ℕ) (l : List ℕ) (i : ℕ) → Numbered id size next l → next ≤ i → i < next + total size l
    → (v : ℕ) × In v l × (id v ≤ i) × (i < id v + size v)
tile_find id size next [] i t h k = absurd (omega arith)
tile_find id size next (x ∷ l) i t h k = elim (dec_lt i (next + size x)) [
  | yes p ↦ (x, inl refl, omega arith, omega arith)
  | no q ↦
      let r = tile_find id size (next + size x) l i t.1 (omega arith) (omega arith) in
      (r.0, inr r.1, r.2, r.3)
]

-- a light sibling is the head of its own chain and no larger than the heavy one
pub light_in : (head size : ℕ → ℕ) (most : ℕ) (l : List ℕ) (v : ℕ) → Light head size most l → In v l
    → (head v ≡ v) × (size v ≤ most) × (size v ≤ total size l)
light_in head size most [] v c h = absurd h
light_in head size most (x ∷ l) v c (inl e) =
    let b = ap size e in
    (ap head e ∙ c.0 ∙ sym e, omega arith, omega arith)
light_in head size most (x ∷ l) v c (inr h) =
    let r = light_in head size most l v c.2 h in
    (r.0, r.1, omega arith)

-- a sibling goes on the parent's chain, right behind it, or is light: its own head, and twice its size is no more than all
pub chained_in : (head id size : ℕ → ℕ) (h next : ℕ) (l : List ℕ) (v : ℕ) → Chained head size h l → Numbered id size next l → In v l
    → ((head v ≡ h) × (id v ≡ next)) ⊎ ((head v ≡ v) × (2 * size v ≤ total size l))
chained_in head id size h next [] v c t i = absurd i
chained_in head id size h next (x ∷ l) v c t (inl e) = inl (ap head e ∙ c.0, ap id e ∙ t.0)
chained_in head id size h next (x ∷ l) v c t (inr i) =
    let r = light_in head size (size x) l v c.1 i in
    inr (r.0, omega arith)
