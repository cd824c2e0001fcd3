-- What the inner functions of the second pass ask and answer. Position j is in hand, position u is its parent.
use Rattle.std.specs.Prelude.{ℕ, ◌+◌, ◌-◌, ◌*◌, ◌≤◌, ◌<◌, ◌^◌, ◌≡◌, ◌≢◌, List, length, set}
use Rattle.graph.specs.Work.{Only, Put}
use Rattle.passes.specs.Passes.{region}

-- `place`: j is a position
pub record PlaceAsks (n j : ℕ) (w : List ℕ) : Type 0 where
  pub room : 8 * n ≤ length w
  pub position : j < n

-- it has this number, this end, this head and this depth
pub record Placed (n j id end top deep : ℕ) (w w' : List ℕ) : Type 0 where
  pub number : Put n j id (region 4 n w) (region 4 n w')
  pub ends : Put n j end (region 5 n w) (region 5 n w')
  pub head : Put n j top (region 6 n w) (region 6 n w')
  pub depth : Put n j deep (region 7 n w) (region 7 n w')
  pub only : Only (4 * n) (8 * n) w w'

-- `number_one`: what is left of the parent's numbers is enough for j
pub record OneAsks (n j u : ℕ) (w : List ℕ) : Type 0 where
  pub small : n < 2 ^ 31
  pub room : 8 * n ≤ length w
  pub position : j < n
  pub up_below : u < n
  pub deep_fits : region 7 n w u + 1 < 2 ^ 32
  pub id_fits : region 4 n w u + 1 + region 2 n w j < 2 ^ 32
  pub enough : region 2 n w j ≤ region 5 n w u

-- a heavy child is placed behind its parent, a light one at the end of the parent's numbers, which then end before it
pub data Numbers (n j u : ℕ) (w w' : List ℕ) : Type 0 where
  heavy : region 3 n w u ≡ j → Placed n j (region 4 n w u + 1) (region 4 n w u + 1 + region 2 n w j) (region 6 n w u) (region 7 n w u + 1) w w'
      → Numbers n j u w w'
  light : region 3 n w u ≢ j
      → Placed n j (region 5 n w u - region 2 n w j) (region 5 n w u) j (region 7 n w u + 1) (set w (5 * n + u) (region 5 n w u - region 2 n w j)) w'
      → Numbers n j u w w'
