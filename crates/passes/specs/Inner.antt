-- What the inner functions of the first pass ask and answer. Position j is in hand, position u is its parent.
use Rattle.std.specs.Prelude.{ℕ, ◌+◌, ◌*◌, ◌≤◌, ◌<◌, ◌^◌, ◌≡◌, ◌≢◌, List, length}
use Rattle.graph.specs.Work.{Only, Put}
use Rattle.passes.specs.Passes.{region}

-- `start_weights`: there is room for eight regions
pub record StartAsks (n : ℕ) (w : List ℕ) : Type 0 where
  pub room : 8 * n ≤ length w

-- every position has the size 1 and no heavy child
pub record StartAnswers (n : ℕ) (w w' : List ℕ) : Type 0 where
  pub ones : (i : ℕ) → i < n → region 2 n w' i ≡ 1
  pub none : (i : ℕ) → i < n → region 3 n w' i ≡ 0
  pub only : Only (2 * n) (4 * n) w w'

-- `heavier`: both are positions
pub record HeavierAsks (n best j : ℕ) (w : List ℕ) : Type 0 where
  pub room : 8 * n ≤ length w
  pub best_below : best < n
  pub position : j < n

-- r is the heavy one of j and the children behind it, of which `best` is the heavy one
pub data Heavier (s : ℕ → ℕ) (best j r : ℕ) : Type 0 where
  alone : best ≡ 0 → r ≡ j → Heavier s best j r
  less : best ≢ 0 → s j < s best → r ≡ best → Heavier s best j r
  more : best ≢ 0 → s best ≤ s j → r ≡ j → Heavier s best j r

-- `weigh_one`: the heavy child so far is a position, and the new size fits
pub record HandAsks (n j u : ℕ) (w : List ℕ) : Type 0 where
  pub small : n < 2 ^ 31
  pub room : 8 * n ≤ length w
  pub position : j < n
  pub up_below : u < n
  pub best_below : region 3 n w u < n
  pub fits : region 2 n w u + region 2 n w j < 2 ^ 32

-- the size of j is added to that of u, and j is weighed against the heavy child of u
pub record HandedOn (n j u : ℕ) (s h s' h' : ℕ → ℕ) : Type 0 where
  pub best : ℕ
  pub heavier : Heavier s (h u) j best
  pub size : Put n u (s u + s j) s s'
  pub heavy : Put n u best h h'

-- and nothing else is written
pub record HandAnswers (n j u : ℕ) (w w' : List ℕ) : Type 0 where
  pub handed : HandedOn n j u (region 2 n w) (region 3 n w) (region 2 n w') (region 3 n w')
  pub only : Only (2 * n) (4 * n) w w'
