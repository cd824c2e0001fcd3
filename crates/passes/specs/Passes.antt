-- What the passes of the build find, told by positions of the visit, and the first of them: sizes and heavy children. p j is the position of j's parent.
use Rattle.std.specs.Prelude.{ℕ, zero, suc, ◌+◌, ◌-◌, ◌*◌, ◌≤◌, ◌<◌, ◌^◌, ◌≡◌, List, [], ◌∷◌, eqb, length}
use Rattle.sums.specs.Sum.{at}
use Rattle.graph.specs.Work.{Only}
use Rattle.numbering.specs.Numbering.{total}
use Rattle.paths.specs.Lists.{keep}
use Rattle.numbering.specs.RuleOne.{heaviest}

-- the numbers from a on, k of them
abbrev pub from : ℕ → ℕ → List ℕ
from a zero = []
from a (suc k) = a ∷ from (suc a) k

-- the children of position i among the positions from a up to n, in the order of the visit
abbrev pub run_from : (ℕ → ℕ) → ℕ → ℕ → ℕ → List ℕ
run_from p n a i = keep (λ k. eqb (p k) i) (from a (n - a))

-- all children of position i
abbrev pub run : (ℕ → ℕ) → ℕ → ℕ → List ℕ
run p n i = run_from p n 1 i

-- the heavy one among children in list order: the first of greatest size; 0 where there is none
abbrev pub heavy_of : (ℕ → ℕ) → List ℕ → ℕ
heavy_of s [] = 0
heavy_of s (x ∷ l) = heaviest s x l

-- s and h are the sizes and the heavy children of the positions
pub record Weighed (n : ℕ) (p s h : ℕ → ℕ) : Type 0 where
  pub size : (i : ℕ) → i < n → s i ≡ suc (total s (run p n i))
  pub heavy : (i : ℕ) → i < n → h i ≡ heavy_of s (run p n i)

-- entry j of the region r of work, where each region has n entries
abbrev pub region : ℕ → ℕ → List ℕ → ℕ → ℕ
region r n w j = at w (r * n + j)

-- each position but the first has its parent before it, and there is room for eight regions
pub record WeighAsks (n : ℕ) (w : List ℕ) : Type 0 where
  pub some_vertex : 1 ≤ n
  pub small : n < 2 ^ 31
  pub room : 8 * n ≤ length w
  pub earlier : (j : ℕ) → 0 < j → j < n → region 1 n w j < j

-- sizes and heavy children stand in the regions 2 and 3
pub record WeighAnswers (n : ℕ) (w w' : List ℕ) : Type 0 where
  pub weighed : Weighed n (region 1 n w) (region 2 n w') (region 3 n w')
  pub only : Only (2 * n) (4 * n) w w'
