-- What the second pass of the build finds, told by positions of the visit: numbers, heads and depths.
use Rattle.std.specs.Prelude.{ℕ, suc, ◌+◌, ◌*◌, ◌≤◌, ◌<◌, ◌^◌, ◌≡◌, ◌≢◌, List, [], ◌∷◌, length}
use Rattle.graph.specs.Work.{Only}
use Rattle.numbering.specs.RuleOne.{without}
use Rattle.passes.specs.Passes.{run, Weighed, region}

-- numbers given backwards: the first of the list ends at `end`, each next one where the one before begins
abbrev pub Backwards : (id s : ℕ → ℕ) → ℕ → List ℕ → Type 0
Backwards id s end [] = Unit {0}
Backwards id s end (x ∷ l) = (id x + s x ≡ end) × Backwards id s (id x) l

-- the light children of position i in list order
abbrev pub lights : (p h : ℕ → ℕ) → ℕ → ℕ → List ℕ
lights p h n i = without (h i) (run p n i)

-- id, top and deep are the numbers, the heads (as positions) and the depths of the positions
pub record Ranked (n : ℕ) (p s h id top deep : ℕ → ℕ) : Type 0 where
  pub first_id : id 0 ≡ 0
  pub first_top : top 0 ≡ 0
  pub first_deep : deep 0 ≡ 0
  pub deeper : (j : ℕ) → 0 < j → j < n → deep j ≡ suc (deep (p j))
  pub heavy_id : (j : ℕ) → 0 < j → j < n → h (p j) ≡ j → id j ≡ id (p j) + 1
  pub heavy_top : (j : ℕ) → 0 < j → j < n → h (p j) ≡ j → top j ≡ top (p j)
  pub light_top : (j : ℕ) → 0 < j → j < n → h (p j) ≢ j → top j ≡ j
  pub light_ids : (i : ℕ) → i < n → Backwards id s (id i + s i) (lights p h n i)

-- the positions are weighed
pub record NumberAsks (n : ℕ) (w : List ℕ) : Type 0 where
  pub some_vertex : 1 ≤ n
  pub small : n < 2 ^ 31
  pub room : 8 * n ≤ length w
  pub earlier : (j : ℕ) → 0 < j → j < n → region 1 n w j < j
  pub weighed : Weighed n (region 1 n w) (region 2 n w) (region 3 n w)

-- numbers, heads and depths stand in the regions 4, 6 and 7
pub record NumberAnswers (n : ℕ) (w w' : List ℕ) : Type 0 where
  pub ranked : Ranked n (region 1 n w) (region 2 n w) (region 3 n w) (region 4 n w') (region 6 n w') (region 7 n w')
  pub only : Only (4 * n) (8 * n) w w'
