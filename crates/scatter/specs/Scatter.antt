-- The last pass: what the regions of work hold by position is written into the six tables by vertex, and into `order` by number.
use Rattle.std.specs.Prelude.{ℕ, ◌*◌, ◌≤◌, ◌<◌, ◌≡◌, true, false, List, eqb, length, set}
use Rattle.sums.specs.Sum.{at}
use Rattle.answers.specs.Limits.{no_parent}
use Rattle.passes.specs.Passes.{region}
use Rattle.tables.specs.Tables.{Six, Long}

-- the parent of the vertex at position j: none at the first position
abbrev pub parent_at : ℕ → List ℕ → ℕ → ℕ
parent_at n w j = elim (eqb j 0) [ true ↦ no_parent | false ↦ at w (region 1 n w j) ]

-- the tables with the entries of position j
abbrev pub scattered : ℕ → List ℕ → ℕ → Six → Six
scattered n w j t =
    record {
      parent = set t.parent (at w j) (parent_at n w j);
      depth = set t.depth (at w j) (region 7 n w j);
      head = set t.head (at w j) (at w (region 6 n w j));
      id = set t.id (at w j) (region 4 n w j);
      order = set t.order (region 4 n w j) (at w j);
      size = set t.size (at w j) (region 2 n w j);
    }

-- positions, vertices, numbers and heads are all below n; no vertex and no number stands twice
pub record ScatterAsks (n : ℕ) (w : List ℕ) (t : Six) : Type 0 where
  pub long : Long n t
  pub room : 8 * n ≤ length w
  pub vertices : (j : ℕ) → j < n → at w j < n
  pub ups : (j : ℕ) → 0 < j → j < n → region 1 n w j < n
  pub tops : (j : ℕ) → j < n → region 6 n w j < n
  pub numbers : (j : ℕ) → j < n → region 4 n w j < n
  pub vertex_once : (i j : ℕ) → i < n → j < n → at w i ≡ at w j → i ≡ j
  pub number_once : (i j : ℕ) → i < n → j < n → region 4 n w i ≡ region 4 n w j → i ≡ j

-- the entries of the first k positions stand in the tables
pub record Filled (n : ℕ) (w : List ℕ) (k : ℕ) (t : Six) : Type 0 where
  pub long : Long n t
  pub parents : (j : ℕ) → j < k → at t.parent (at w j) ≡ parent_at n w j
  pub depths : (j : ℕ) → j < k → at t.depth (at w j) ≡ region 7 n w j
  pub heads : (j : ℕ) → j < k → at t.head (at w j) ≡ at w (region 6 n w j)
  pub ids : (j : ℕ) → j < k → at t.id (at w j) ≡ region 4 n w j
  pub orders : (j : ℕ) → j < k → at t.order (region 4 n w j) ≡ at w j
  pub sizes : (j : ℕ) → j < k → at t.size (at w j) ≡ region 2 n w j

-- position j has its vertex, and its parent's vertex, in work
pub record Parented (n j : ℕ) (w : List ℕ) : Type 0 where
  pub inside : j < n
  pub room : 8 * n ≤ length w
  pub up : 0 < j → region 1 n w j < n
