-- A breadth-first visit, told by positions: q j is the j-th vertex met, p j the position of the vertex in whose list it was met, and e j its place
-- in that list.
use Rattle.std.specs.Prelude.{ℕ, zero, suc, ◌+◌, ◌*◌, ◌≤◌, ◌<◌, ◌^◌, ◌≡◌, List, true, false, eqb, length}
use Rattle.sums.specs.Sum.{at}
use Rattle.graph.specs.Lent.{vertices, list_of, Offsets, Targets}
use Rattle.graph.specs.Work.{Only}

-- t vertices were met from the root, and no list of theirs has another
pub record Visited (n : ℕ) (A : ℕ → List ℕ) (root : ℕ) (q p e : ℕ → ℕ) (t : ℕ) : Type 0 where
  pub some : 0 < t
  pub start : q 0 ≡ root
  pub below : (j : ℕ) → j < t → q j < n
  pub once : (j l : ℕ) → j < t → l < t → q j ≡ q l → j ≡ l
  pub earlier : (j : ℕ) → 0 < j → j < t → p j < j
  pub place : (j : ℕ) → 0 < j → j < t → e j < length (A (q (p j)))
  pub entry : (j : ℕ) → 0 < j → j < t → at (A (q (p j))) (e j) ≡ q j
  pub rise : (j l : ℕ) → 0 < j → j < l → l < t → p j ≤ p l
  pub in_order : (j l : ℕ) → 0 < j → j < l → l < t → p j ≡ p l → e j < e l
  pub closed : (j k : ℕ) → j < t → k < length (A (q j)) → (l : ℕ) × (l < t) × (q l ≡ at (A (q j)) k)

-- the queue stands in work from index base on, the positions of the parents n entries behind it
abbrev pub queue_in : List ℕ → ℕ → ℕ → ℕ
queue_in w base j = at w (base + j)

abbrev pub up_in : List ℕ → ℕ → ℕ → ℕ → ℕ
up_in w n base j = at w (base + n + j)

-- a graph of n vertices with sound offsets and targets, a root among them, and 3n entries of work from index base on
pub record VisitAsks (os ts : List ℕ) (n base root : ℕ) (w : List ℕ) : Type 0 where
  pub size : n ≡ vertices os
  pub small : n < 2 ^ 32
  pub offsets : Offsets os ts
  pub targets : Targets os ts
  pub root_below : root < n
  pub room : base + 3 * n ≤ length w

-- t vertices were met, the visit stands in work, and only those entries of work were written
pub record VisitAnswers (os ts : List ℕ) (n base root : ℕ) (w w' : List ℕ) (t : ℕ) : Type 0 where
  pub place : ℕ → ℕ
  pub visited : Visited n (list_of os ts) root (queue_in w' base) (up_in w' n base) place t
  pub only : Only base (base + 3 * n) w w'

-- the depth of a position: 0 at the first, else one more than at the position from which it was met; in at most the given number of steps
unfoldable pub depth_at : (ℕ → ℕ) → ℕ → ℕ → ℕ
depth_at p zero j = 0
depth_at p (suc f) j = elim (eqb j 0) [ true ↦ 0 | false ↦ suc (depth_at p f (p j)) ]

unfoldable pub depth_of : (ℕ → ℕ) → ℕ → ℕ
depth_of p j = depth_at p j j
