-- What the search for a component's centroid asks and answers, function by function.
use Rattle.std.specs.Prelude.{ℕ, ◌+◌, ◌*◌, ◌≤◌, ◌<◌, ◌^◌, ◌≡◌, ◌≢◌, Bool, true, false, not, List, ◌∷◌, eqb, ltb, length, set}
use Rattle.sums.specs.Sum.{at, how_many}
use Rattle.paths.specs.Walk.{NoDup, Stands}
use Rattle.paths.specs.Rooted.{Spans}
use Rattle.paths.specs.Route.{ptail}
use Rattle.graph.specs.Lent.{vertices, list_of, Offsets, Targets}
use Rattle.graph.specs.Marks.{mark_of}
use Rattle.graph.specs.Work.{Only}
use Rattle.answers.specs.Choice.{all?}
use Rattle.centroid.specs.Components.{CentroidFrom}
use Rattle.centroid.specs.Regions.{removed_from, queue_from, queue_at, from_at, size_at, regions_end}

-- a lent graph that is a tree, seen from 0
pub record LentTree (os ts : List ℕ) (n : ℕ) : Type 0 where
  pub size : n ≡ vertices os
  pub some : 0 < n
  pub small : n < 2 ^ 31
  pub offsets : Offsets os ts
  pub targets : Targets os ts
  pub par : ℕ → ℕ
  pub dep : ℕ → ℕ
  pub spans : Spans n (Stands (list_of os ts)) 0 par dep
  pub once : (u : ℕ) → u < n → NoDup (list_of os ts u)

-- whether y is not removed: its mark, n entries of marks from 3n on, is not set
abbrev pub live : List ℕ → ℕ → ℕ → Bool
live w n y = elim (ltb y n) [ true ↦ not (eqb (mark_of w (removed_from n) y) 1) | false ↦ true ]

-- every vertex on the path from s to x passes the test
abbrev pub joined_by : (way : ℕ → ℕ → List ℕ) → (ℕ → Bool) → ℕ → ℕ → Bool
joined_by way g s x = all? g (s ∷ way s x)

-- t vertices q 0, q 1, .. were met from s along vertices that pass the test g, each but the first from the position p j; of the one at position i
-- the first k entries were looked at, of those before it all
pub record Spread (n : ℕ) (A : ℕ → List ℕ) (way : ℕ → ℕ → List ℕ) (g : ℕ → Bool) (s : ℕ) (q p : ℕ → ℕ) (i k t : ℕ) : Type 0 where
  pub some : 0 < t
  pub within : i ≤ t
  pub start : q 0 ≡ s
  pub start_from : p 0 ≡ 0
  pub below : (j : ℕ) → j < t → q j < n
  pub passing : (j : ℕ) → j < t → g (q j) ≡ true
  pub once : (j l : ℕ) → j < t → l < t → q j ≡ q l → j ≡ l
  pub earlier : (j : ℕ) → 0 < j → j < t → p j < j
  pub so_far : (j : ℕ) → 0 < j → j < t → p j ≤ i
  pub step : (j : ℕ) → 0 < j → j < t → way (q j) s ≡ q (p j) ∷ way (q (p j)) s
  pub looked : (j : ℕ) → 0 < j → j < t → p j ≡ i → (e : ℕ) × (e < k) × (at (A (q i)) e ≡ q j)
  pub closed : (j c : ℕ) → j < i → c < length (A (q j)) → g (at (A (q j)) c) ≡ true → (l : ℕ) × (l < t) × (q l ≡ at (A (q j)) c)
  pub closing : (c : ℕ) → c < k → g (at (A (q i)) c) ≡ true → (l : ℕ) × (l < t) × (q l ≡ at (A (q i)) c)

-- the same in work: the vertices from 4n on, the positions from 5n on, and sizes of 1 from 6n on
pub record SpreadIn (os ts : List ℕ) (n s : ℕ) (w : List ℕ) (i k t : ℕ) : Type 0 where
  pub q : ℕ → ℕ
  pub p : ℕ → ℕ
  pub queue : (j : ℕ) → j < t → at w (queue_at n j) ≡ q j
  pub from : (j : ℕ) → j < t → at w (from_at n j) ≡ p j
  pub ones : (j : ℕ) → j < t → at w (size_at n j) ≡ 1
  pub spread : (par dep : ℕ → ℕ) → Spans n (Stands (list_of os ts)) 0 par dep → Spread n (list_of os ts) (ptail par dep) (live w n) s q p i k t

-- x is met from position i, whose own vertex was met from back: where it is entered there is room for it
pub record EnterAsks (n x back i t : ℕ) (w : List ℕ) : Type 0 where
  pub small : n < 2 ^ 31
  pub vertex : x < n
  pub position : i < n
  pub fresh : live w n x ≡ true → x ≢ back → t < n
  pub room : regions_end n ≤ length w

-- work with x at position t, met from i, with size 1
abbrev pub entered : ℕ → ℕ → ℕ → ℕ → List ℕ → List ℕ
entered n x i t w = set (set (set w (queue_at n t) x) (from_at n t) i) (size_at n t) 1

-- x is removed, or is where it was met from, and nothing changed; or it stands at position t
pub data Entered (n x back i t : ℕ) (w w' : List ℕ) (r : ℕ) : Type 0 where
  gone : live w n x ≡ false → w' ≡ w → r ≡ t → Entered n x back i t w w' r
  returning : x ≡ back → w' ≡ w → r ≡ t → Entered n x back i t w w' r
  new : live w n x ≡ true → x ≢ back → w' ≡ entered n x i t w → r ≡ t + 1 → Entered n x back i t w w' r

-- the list of the vertex at position i is to be looked at
pub record ListAsks (os ts : List ℕ) (n i t : ℕ) (w : List ℕ) : Type 0 where
  pub tree : LentTree os ts n
  pub room : regions_end n ≤ length w
  pub inside : i < t
  pub spread : SpreadIn os ts n (at w (queue_from n)) w i 0 t

-- it was looked at, and t' vertices are met
pub record ListAnswers (os ts : List ℕ) (n i : ℕ) (w w' : List ℕ) (t' : ℕ) : Type 0 where
  pub spread : SpreadIn os ts n (at w (queue_from n)) w' i (length (list_of os ts (at w (queue_at n i)))) t'
  pub inside : i < t'
  pub kept : at w' (queue_at n i) ≡ at w (queue_at n i)
  pub only : Only (queue_from n) (regions_end n) w w'

-- the component of s, which is not removed, is to be visited
pub record WalkAsks (os ts : List ℕ) (n s : ℕ) (w : List ℕ) : Type 0 where
  pub tree : LentTree os ts n
  pub start : s < n
  pub start_live : live w n s ≡ true
  pub room : regions_end n ≤ length w

pub record Walked (os ts : List ℕ) (n s : ℕ) (w w' : List ℕ) (t : ℕ) : Type 0 where
  pub spread : SpreadIn os ts n s w' t 0 t
  pub only : Only (queue_from n) (regions_end n) w w'

-- t positions, each but the first met from an earlier one, with sizes of 1
pub record PickAsks (n t : ℕ) (w : List ℕ) : Type 0 where
  pub small : n < 2 ^ 31
  pub some : 0 < t
  pub few : t ≤ n
  pub room : regions_end n ≤ length w
  pub earlier : (j : ℕ) → 0 < j → j < t → at w (from_at n j) < j
  pub ones : (j : ℕ) → j < t → at w (size_at n j) ≡ 1

-- `on j l` tells whether the position l is j or hangs below it
pub record Hangs (t : ℕ) (p : ℕ → ℕ) (on : ℕ → ℕ → Bool) : Type 0 where
  pub self : (j : ℕ) → j < t → on j j ≡ true
  pub before : (j l : ℕ) → j < t → l < j → on j l ≡ false
  pub up : (j l : ℕ) → j < t → 0 < l → l < t → l ≢ j → on j l ≡ on j (p l)

-- the last position with more than half of all below it
pub record Heavy (t : ℕ) (on : ℕ → ℕ → Bool) (j : ℕ) : Type 0 where
  pub more : t < 2 * how_many t (on j)
  pub last : (l : ℕ) → j < l → l < t → 2 * how_many t (on l) ≤ t

pub record Picked (n t : ℕ) (w w' : List ℕ) (r : ℕ) : Type 0 where
  pub place : ℕ
  pub inside : place < t
  pub answer : r ≡ at w (queue_at n place)
  pub heavy : (on : ℕ → ℕ → Bool) → Hangs t (λ j. at w (from_at n j)) on → Heavy t on place
  pub only : Only (queue_from n) (regions_end n) w w'

-- c is the centroid of the component of s
pub record CentroidFound (os ts : List ℕ) (n s : ℕ) (w w' : List ℕ) (c : ℕ) : Type 0 where
  pub below : c < n
  pub centroid : (par dep : ℕ → ℕ) → Spans n (Stands (list_of os ts)) 0 par dep → CentroidFrom n (ptail par dep) (joined_by (ptail par dep) (live w n) s) s c
  pub only : Only (queue_from n) (regions_end n) w w'
