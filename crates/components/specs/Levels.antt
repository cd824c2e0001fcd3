-- What the functions that write the levels into work ask and answer.
use Rattle.std.specs.Prelude.{ℕ, ◌+◌, ◌≤◌, ◌<◌, List, length, take, drop}
use Rattle.sums.specs.Sum.{at, sum}
use Rattle.answers.specs.Limits.{max_vertices, most_chains}
use Rattle.graph.specs.Lent.{list_of}
use Rattle.graph.specs.Work.{Only}
use Rattle.centroid.specs.Decomposition.{DecompositionOf}
use Rattle.centroid.specs.Regions.{level_of_from, level_of_at, work_end}
use Rattle.centroid.specs.Search.{LentTree}

-- the levels by vertex in work, from 7n on
abbrev pub levels_in : ℕ → List ℕ → List ℕ
levels_in n w = take n (drop (level_of_from n) w)

-- "The total length equals the sum of level(v)+1 over all vertices."
abbrev pub total_in : ℕ → List ℕ → ℕ
total_in n w = sum n (λ v. at w (level_of_at n v) + 1)

-- the levels of a tree are to be found
pub record FindAsks (os ts : List ℕ) (n : ℕ) (w : List ℕ) : Type 0 where
  pub tree : LentTree os ts n
  pub room : work_end n ≤ length w

-- they are those of the decomposition
pub record LevelsFound (os ts : List ℕ) (n : ℕ) (w w' : List ℕ) : Type 0 where
  pub up : List ℕ
  pub decomposition : DecompositionOf n (list_of os ts) up (levels_in n w')
  pub only : Only 0 (work_end n) w w'

-- levels of vertices within their limit, none above the most chains, so that their sum fits
pub record TotalAsks (n : ℕ) (w : List ℕ) : Type 0 where
  pub few : n ≤ max_vertices
  pub room : work_end n ≤ length w
  pub low : (v : ℕ) → v < n → at w (level_of_at n v) ≤ most_chains
