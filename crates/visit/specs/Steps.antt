-- What the inner functions of the visit ask and answer: a visit that is under way.
use Rattle.std.specs.Prelude.{ℕ, ◌+◌, ◌*◌, ◌≤◌, ◌<◌, ◌^◌, ◌≡◌, ◌≢◌, List, length, set}
use Rattle.sums.specs.Sum.{at}
use Rattle.graph.specs.Lent.{vertices, list_of, Offsets, Targets}
use Rattle.graph.specs.Work.{Only}
use Rattle.graph.specs.Marks.{mark_of, Marks}
use Rattle.visit.specs.Visit.{queue_in, up_in}

-- t vertices were met from r; of the vertex at position i the first k entries were looked at, of those before it all. m x is the mark of x.
pub record Seen (n : ℕ) (A : ℕ → List ℕ) (r : ℕ) (q p e m : ℕ → ℕ) (i k t : ℕ) : Type 0 where
  pub some : 0 < t
  pub within : i ≤ t
  pub start : q 0 ≡ r
  pub below : (j : ℕ) → j < t → q j < n
  pub once : (j l : ℕ) → j < t → l < t → q j ≡ q l → j ≡ l
  pub marked : (j : ℕ) → j < t → m (q j) ≡ 1
  pub met : (x : ℕ) → x < n → m x ≡ 1 → (j : ℕ) × (j < t) × (q j ≡ x)
  pub earlier : (j : ℕ) → 0 < j → j < t → p j < j
  pub so_far : (j : ℕ) → 0 < j → j < t → p j ≤ i
  pub place : (j : ℕ) → 0 < j → j < t → e j < length (A (q (p j)))
  pub looked : (j : ℕ) → 0 < j → j < t → p j ≡ i → e j < k
  pub entry : (j : ℕ) → 0 < j → j < t → at (A (q (p j))) (e j) ≡ q j
  pub rise : (j l : ℕ) → 0 < j → j < l → l < t → p j ≤ p l
  pub in_order : (j l : ℕ) → 0 < j → j < l → l < t → p j ≡ p l → e j < e l
  pub closed : (j c : ℕ) → j < i → c < length (A (q j)) → m (at (A (q j)) c) ≡ 1
  pub closing : (c : ℕ) → c < k → m (at (A (q i)) c) ≡ 1

-- the same of a visit that stands in work, with its marks 2n entries behind the queue
pub record SeenIn (os ts : List ℕ) (n base r : ℕ) (w : List ℕ) (i k t : ℕ) : Type 0 where
  pub place : ℕ → ℕ
  pub seen : Seen n (list_of os ts) r (queue_in w base) (up_in w n base) place (mark_of w (base + 2 * n)) i k t

-- a vertex x that is met from position i, with t met so far: where it is new there is room for it
pub record Meets (n base x i t : ℕ) (w : List ℕ) : Type 0 where
  pub small : n < 2 ^ 32
  pub vertex : x < n
  pub position : i < n
  pub fresh : mark_of w (base + 2 * n) x ≢ 1 → t < n
  pub room : base + 3 * n ≤ length w

-- work with x in the queue at t, met from i
abbrev pub queued : ℕ → ℕ → ℕ → ℕ → ℕ → List ℕ → List ℕ
queued n base x i t w = set (set w (base + t) x) (base + n + t) i

-- x was met before, and nothing changed; or it is marked and stands in the queue at t, met from i
pub data Met (n base x i t : ℕ) (w w' : List ℕ) (r : ℕ) : Type 0 where
  old : mark_of w (base + 2 * n) x ≡ 1 → w' ≡ w → r ≡ t → Met n base x i t w w' r
  new : (w₁ : List ℕ) → mark_of w (base + 2 * n) x ≢ 1 → Marks (base + 2 * n) x w w₁ → w' ≡ queued n base x i t w₁ → r ≡ t + 1
      → Met n base x i t w w' r

-- the list of the vertex at position i is to be looked at
pub record ListAsks (os ts : List ℕ) (n base i t : ℕ) (w : List ℕ) : Type 0 where
  pub size : n ≡ vertices os
  pub small : n < 2 ^ 32
  pub offsets : Offsets os ts
  pub targets : Targets os ts
  pub room : base + 3 * n ≤ length w
  pub inside : i < t
  pub seen : SeenIn os ts n base (at w base) w i 0 t

-- it was looked at, and t' vertices are met
pub record ListAnswers (os ts : List ℕ) (n base i : ℕ) (w w' : List ℕ) (t' : ℕ) : Type 0 where
  pub seen : SeenIn os ts n base (at w base) w' i (length (list_of os ts (at w (base + i)))) t'
  pub inside : i < t'
  pub kept : at w' (base + i) ≡ at w (base + i)
  pub only : Only base (base + 3 * n) w w'
