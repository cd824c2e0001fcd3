-- The numbers of steps up a chain, and the ranges that read them.
use Prim.Native.Nat.{ℕ, zero, suc, ◌+◌, ◌-◌, ◌*◌, ◌≤◌}
use native.Mathlib.Omega.{arith}
use native.Mathlib.Decide.{dec_lt}
use mathlib.Core.Path.{◌≡◌, refl, sym, ap, ◌∙◌}
use mathlib.Core.List.{List, [], ◌∷◌, ◌++◌, reverse, append-nil, append_assoc, reverse-cons, reverse-append, reverse-reverse}
use borrow.Author.Tests.{lt-ltb, le-ltb}
use Rattle.ranges.specs.Ranges.{range, piece, chain_range, last_range}
use Rattle.ranges.specs.Readings.{rising, read_range, reading}
use Rattle.ranges.specs.declared.kinds.Direction.TheVariants.{Forward, Reversed}
use Rattle.ranges.specs.declared.kinds.PathRange.{PathRange}
use Rattle.ranges.specs.declared.kinds.Kind.{Kind}
use Rattle.ranges.specs.declared.kinds.Kind.TheVariants.{Vertices, Edges, Both}

-- the numbers of a vertex on its own
abbrev pub alone : Kind → ℕ → List ℕ
alone Vertices i = i ∷ []
alone Edges i = []
alone Both i = 2 * i ∷ []

-- the numbers of one step up, from the vertex with number i
abbrev pub step_up : Kind → ℕ → List ℕ
step_up Vertices i = i ∷ []
step_up Edges i = i ∷ []
step_up Both i = 2 * i ∷ (2 * i - 1) ∷ []

-- the numbers of k steps up a chain, the last one from the vertex with number l
abbrev pub steps_up : Kind → ℕ → ℕ → List ℕ
steps_up kind l zero = []
steps_up kind l (suc k) = step_up kind (l + k) ++ steps_up kind l k

-- k numbers down to l
abbrev falling : ℕ → ℕ → List ℕ
falling l k = reverse (rising l k)

-- one more number at the end of a rising run
rising_snoc : (l k : ℕ) → rising l (suc k) ≡ rising l k ++ ((l + k) ∷ [])
rising_snoc l zero = let e : l + zero ≡ l = omega arith in rw e
rising_snoc l (suc k) = let e : suc l + k ≡ l + suc k = omega arith in ap (λ (r : List ℕ). l ∷ r) (rw (← e) (rising_snoc (suc l) k))

-- one more at the start of a falling one
falling_cons : (l k : ℕ) → falling l (suc k) ≡ (l + k) ∷ falling l k
falling_cons l k = ap reverse (rising_snoc l k) ∙ reverse-append (rising l k) ((l + k) ∷ [])

-- the vertices up a chain have falling numbers
vertices_fall : (l k : ℕ) → steps_up Vertices l k ≡ falling l k
vertices_fall l zero = refl
vertices_fall l (suc k) = rw (falling_cons l k, vertices_fall l k)

-- and so have its edges
edges_fall : (l k : ℕ) → steps_up Edges l k ≡ falling l k
edges_fall l zero = refl
edges_fall l (suc k) = rw (falling_cons l k, edges_fall l k)

-- the doubled numbers fall as well
both_fall : (l k : ℕ) → 1 ≤ l → steps_up Both l k ≡ falling (2 * l - 1) (2 * k)
both_fall l zero h = refl
both_fall l (suc k) h =
    let e : 2 * suc k ≡ suc (suc (2 * k)) = omega arith in
    let a : 2 * l - 1 + suc (2 * k) ≡ 2 * (l + k) = omega arith in
    let b : 2 * l - 1 + 2 * k ≡ 2 * (l + k) - 1 = omega arith in
    rw (e, falling_cons (2 * l - 1) (suc (2 * k)), falling_cons (2 * l - 1) (2 * k), a, b, both_fall l k h)

-- steps up a chain are read by its range
pub chain_reads : (kind : Kind) (l r k : ℕ) → 1 ≤ l → l + k ≡ r → steps_up kind l k ≡ read_range (chain_range kind (piece l r Reversed))
chain_reads Vertices l r k h e = let f : r - l ≡ k = omega arith in rw f (vertices_fall l k)
chain_reads Edges l r k h e = let f : r - l ≡ k = omega arith in rw f (edges_fall l k)
chain_reads Both l r k h e = let f : 2 * r - 1 - (2 * l - 1) ≡ 2 * k = omega arith in rw f (both_fall l k h)

-- the edges below a vertex of the last chain are read by its range, which is left out where there is none
edges_last : (l r k : ℕ) → l + suc k ≡ r → falling (suc l) k ≡ reading (last_range Edges (piece l r Reversed))
edges_last l r zero e = rw (le-ltb (l + 1) r (omega arith))
edges_last l r (suc k) e =
    let f : suc k ≡ r - (l + 1) = omega arith in
    let g : suc l ≡ l + 1 = omega arith in
    rw (lt-ltb (l + 1) r (omega arith))
    (ap (λ (i : ℕ). falling i (suc k)) g ∙ ap (falling (l + 1)) f ∙ sym (append-nil (falling (l + 1) (r - (l + 1)))))

-- steps up the last chain, and the vertex where they end, are read by its range
pub last_reads : (kind : Kind) (l r k : ℕ) → l + suc k ≡ r → steps_up kind (suc l) k ++ alone kind l ≡ reading (last_range kind (piece l r Reversed))
last_reads Vertices l r k e =
    let f : r - l ≡ suc k = omega arith in
    rw (f, vertices_fall (suc l) k, append-nil (falling l (suc k))) (sym (reverse-cons l (rising (suc l) k)))
last_reads Edges l r k e = append-nil (steps_up Edges (suc l) k) ∙ edges_fall (suc l) k ∙ edges_last l r k e
last_reads Both l r k e =
    let f : 2 * r - 1 - 2 * l ≡ suc (2 * k) = omega arith in
    let g : 2 * suc l - 1 ≡ suc (2 * l) = omega arith in
    rw (f, both_fall (suc l) k (omega arith), g, append-nil (falling (2 * l) (suc (2 * k)))) (sym (reverse-cons (2 * l) (rising (suc (2 * l)) (2 * k))))

-- a list of ranges and then another read one after the other
pub reading-append : (a b : List PathRange) → reading (a ++ b) ≡ reading a ++ reading b
reading-append [] b = refl
reading-append (r ∷ a) b = rw (reading-append a b, append_assoc (read_range r) (reading a) (reading b))

-- forward, a range of a piece reads the other way round
one-turned : (i j l r : ℕ) → reading (range i j (piece l r Forward) ∷ []) ≡ reverse (reading (range i j (piece l r Reversed) ∷ []))
one-turned i j l r =
    append-nil (rising i (j - i)) ∙ sym (reverse-reverse (rising i (j - i))) ∙ ap reverse (sym (append-nil (falling i (j - i))))

-- so does the range of a chain
pub chain-turned : (kind : Kind) (l r : ℕ)
    → read_range (chain_range kind (piece l r Forward)) ≡ reverse (read_range (chain_range kind (piece l r Reversed)))
chain-turned Vertices l r = sym (reverse-reverse (rising l (r - l)))
chain-turned Edges l r = sym (reverse-reverse (rising l (r - l)))
chain-turned Both l r = sym (reverse-reverse (rising (2 * l - 1) (2 * r - 1 - (2 * l - 1))))

-- and that of the last chain
pub last-turned : (kind : Kind) (l r : ℕ) → reading (last_range kind (piece l r Forward)) ≡ reverse (reading (last_range kind (piece l r Reversed)))
last-turned Vertices l r = one-turned l r l r
last-turned Edges l r = elim (dec_lt (l + 1) r) [
  | yes h ↦ rw (lt-ltb (l + 1) r h) (one-turned (l + 1) r l r)
  | no q ↦ rw (le-ltb (l + 1) r (omega arith))
]
last-turned Both l r = one-turned (2 * l) (2 * r - 1) l r
