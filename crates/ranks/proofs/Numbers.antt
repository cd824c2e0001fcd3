-- The stores of `place` and the loop of `number` over work.
use Prim.Native.Nat.{ℕ, ◌+◌, ◌-◌, ◌*◌, ◌≤◌, ◌<◌, ◌^◌}
use native.Mathlib.Omega.{arith}
use mathlib.Core.Path.{◌≡◌, refl, sym, ap, ◌∙◌, subst}
use mathlib.Core.Logic.{◌≢◌}
use mathlib.Core.List.{List}
use lib.ListN.{length, set, length-set}
use Rattle.sums.specs.Sum.{at}
use Rattle.graph.specs.Work.{Only, Put}
use Rattle.graph.proofs.Frames.{only_trans, only_set, at_set_same, at_set_other}
use Rattle.passes.specs.Passes.{region}
use Rattle.ranks.specs.Ranks.{NumberAsks}
use Rattle.ranks.specs.Inner.{PlaceAsks, Placed, OneAsks, Numbers, heavy, light}
use Rattle.ranks.proofs.Ranking.{WeighedTree, Ranking, ranking_heavy, ranking_light, left_enough, left_within}

-- the four stores of `place`
pub placed : {n j : ℕ} (id end top deep : ℕ) {w : List ℕ} → PlaceAsks n j w
    → Placed n j id end top deep w (set (set (set (set w (4 * n + j) id) (5 * n + j) end) (6 * n + j) top) (7 * n + j) deep)
placed {n} {j} id end top deep {w} a =
    let room = a.room in
    let b = a.position in
    let w₁ = set w (4 * n + j) id in
    let w₂ = set w₁ (5 * n + j) end in
    let w₃ = set w₂ (6 * n + j) top in
    let w₄ = set w₃ (7 * n + j) deep in
    let l₁ : length w₁ ≡ length w = length-set w (4 * n + j) id in
    let l₂ : length w₂ ≡ length w = length-set w₁ (5 * n + j) end ∙ l₁ in
    let l₃ : length w₃ ≡ length w = length-set w₂ (6 * n + j) top ∙ l₂ in
    let other : (i : ℕ) → i ≢ 4 * n + j → i ≢ 5 * n + j → i ≢ 6 * n + j → i ≢ 7 * n + j → at w₄ i ≡ at w i =
    λ i d₁ d₂ d₃ d₄. at_set_other w₃ (7 * n + j) deep i d₄ ∙ at_set_other w₂ (6 * n + j) top i d₃
    ∙ at_set_other w₁ (5 * n + j) end i d₂ ∙ at_set_other w (4 * n + j) id i d₁ in
    record {
      number = record {
        here = at_set_other w₃ (7 * n + j) deep (4 * n + j) (omega arith) ∙ at_set_other w₂ (6 * n + j) top (4 * n + j) (omega arith)
            ∙ at_set_other w₁ (5 * n + j) end (4 * n + j) (omega arith) ∙ at_set_same w (4 * n + j) id (omega arith);
        there = λ k c d. other (4 * n + k) (omega arith) (omega arith) (omega arith) (omega arith);
      };
      ends = record {
        here = at_set_other w₃ (7 * n + j) deep (5 * n + j) (omega arith) ∙ at_set_other w₂ (6 * n + j) top (5 * n + j) (omega arith)
            ∙ at_set_same w₁ (5 * n + j) end (omega arith);
        there = λ k c d. other (5 * n + k) (omega arith) (omega arith) (omega arith) (omega arith);
      };
      head = record {
        here = at_set_other w₃ (7 * n + j) deep (6 * n + j) (omega arith) ∙ at_set_same w₂ (6 * n + j) top (omega arith);
        there = λ k c d. other (6 * n + k) (omega arith) (omega arith) (omega arith) (omega arith);
      };
      depth = record {
        here = at_set_same w₃ (7 * n + j) deep (omega arith);
        there = λ k c d. other (7 * n + k) (omega arith) (omega arith) (omega arith) (omega arith);
      };
      only = record {
        same_length = length-set w₃ (7 * n + j) deep ∙ l₃;
        before = λ i c. other i (omega arith) (omega arith) (omega arith) (omega arith);
        after = λ i c. other i (omega arith) (omega arith) (omega arith) (omega arith);
      };
    }

-- a function before, and a value, may be given by equal ones
put-before : {n j x : ℕ} {f g f' : ℕ → ℕ} → ((k : ℕ) → k < n → f k ≡ g k) → Put n j x f f' → Put n j x g f'
put-before e q = record { here = q.here; there = λ k b d. q.there k b d ∙ e k b }

put_value : {n j x y : ℕ} {f f' : ℕ → ℕ} → x ≡ y → Put n j x f f' → Put n j y f f'
put_value e q = record { here = q.here ∙ e; there = q.there }

-- parents, sizes and heavy children as work holds them
pub record Reads (n : ℕ) (p s h : ℕ → ℕ) (w : List ℕ) : Type 0 where
  pub tree : WeighedTree n p s h
  pub up : (k : ℕ) → k < n → region 1 n w k ≡ p k
  pub size : (k : ℕ) → k < n → region 2 n w k ≡ s k
  pub heavy_child : (k : ℕ) → k < n → region 3 n w k ≡ h k

-- they stay while numbers are written
reads_kept : {n : ℕ} {p s h : ℕ → ℕ} {w w' : List ℕ} → Only (4 * n) (8 * n) w w' → Reads n p s h w → Reads n p s h w'
reads_kept {n} {p} {s} {h} {w} {w'} o r =
    record {
      tree = r.tree;
      up = λ k b. o.before (1 * n + k) (omega arith) ∙ r.up k b;
      size = λ k b. o.before (2 * n + k) (omega arith) ∙ r.size k b;
      heavy_child = λ k b. o.before (3 * n + k) (omega arith) ∙ r.heavy_child k b;
    }

-- the regions that numbers, ends, heads and depths are written to
abbrev RankingIn : ℕ → (p s h : ℕ → ℕ) → List ℕ → ℕ → Type 0
RankingIn n p s h w j = Ranking n p s h (region 4 n w) (region 5 n w) (region 6 n w) (region 7 n w) j

-- one position more
module _ {n : ℕ} {p s h : ℕ → ℕ} {w : List ℕ} {j : ℕ} (r : Reads n p s h w) (g : RankingIn n p s h w j) (b : j < n) where
  up_below : p j < n
  up_below = omega (arith, r.tree.earlier j g.some b)

  asks_in : n < 2 ^ 31 → 8 * n ≤ length w → region 2 n w 0 < 2 ^ 32 → OneAsks n j (p j) w
  asks_in small room fits =
      let enough = left_enough r.tree g b in
      let inside = left_within r.tree g b in
      let first = r.size 0 (omega arith) in
      let here = r.size j b in
      record {
        small = small;
        room = room;
        position = b;
        up_below = up_below;
        deep_fits = omega (arith, g.shallow (p j) (r.tree.earlier j g.some b), up_below);
        id_fits = omega arith;
        enough = omega arith;
      }

  step_in : {w' : List ℕ} → 8 * n ≤ length w → Numbers n j (p j) w w' → RankingIn n p s h w' (j + 1)
  step_in room (heavy q t) =
      ranking_heavy r.tree g b (sym (r.heavy_child (p j) up_below) ∙ q) t.number
      (put_value (ap (λ (x : ℕ). region 4 n w (p j) + 1 + x) (r.size j b)) t.ends)
      t.head t.depth
  step_in room (light d t) =
      let x = region 5 n w (p j) - region 2 n w j in
      let e : x ≡ region 5 n w (p j) - s j = ap (λ (y : ℕ). region 5 n w (p j) - y) (r.size j b) in
      let u = up_below in
      ranking_light r.tree g b (λ q. d (r.heavy_child (p j) up_below ∙ q))
      (put-before (λ k c. at_set_other w (5 * n + p j) x (4 * n + k) (omega arith)) (put_value e t.number))
      (record {
        here = at_set_same w (5 * n + p j) x (omega arith) ∙ e;
        there = λ k c ne. at_set_other w (5 * n + p j) x (5 * n + k) (omega arith);
      })
      t.ends
      (put-before (λ k c. at_set_other w (5 * n + p j) x (6 * n + k) (omega arith)) t.head)
      (put-before (λ k c. at_set_other w (5 * n + p j) x (7 * n + k) (omega arith)) t.depth)

numbers_only : {n j u : ℕ} {w w' : List ℕ} → u < n → Numbers n j u w w' → Only (4 * n) (8 * n) w w'
numbers_only b (heavy q t) = t.only
numbers_only {n} {j} {u} {w} b (light d t) =
    only_trans (only_set w (5 * n + u) (region 5 n w u - region 2 n w j) (omega arith) (omega arith)) t.only

-- work where the loop of `number` began is w₀: for the tree that stands there, the positions below j are ranked
pub record NumberLoop (n : ℕ) (w₀ w : List ℕ) (j : ℕ) : Type 0 where
  pub room : 8 * n ≤ length w
  pub ranking : (p s h : ℕ → ℕ) → Reads n p s h w₀ → RankingIn n p s h w j
  pub only : Only (4 * n) (8 * n) w₀ w

-- w is work at the call of `number`, w₀ after the first position is placed
module _ {n : ℕ} {w w₀ : List ℕ} (a : NumberAsks n w) (t : Placed n 0 0 (at w (2 * n)) 0 0 w w₀) where
  reads : Reads n (region 1 n w) (region 2 n w) (region 3 n w) w₀
  reads =
      reads_kept t.only
      (record { tree = record { earlier = a.earlier; weighed = a.weighed }; up = λ k b. refl; size = λ k b. refl; heavy_child = λ k b. refl })

  module _ {w₁ : List ℕ} {j : ℕ} (g : NumberLoop n w₀ w₁ j) where
    now : RankingIn n (region 1 n w) (region 2 n w) (region 3 n w) w₁ j
    now = g.ranking (region 1 n w) (region 2 n w) (region 3 n w) reads

    reads_now : Reads n (region 1 n w) (region 2 n w) (region 3 n w) w₁
    reads_now = reads_kept g.only reads

    -- position j may be numbered
    pub number_asks : j < n → region 2 n w₁ 0 < 2 ^ 32 → OneAsks n j (region 1 n w₁ j) w₁
    number_asks b fits =
        subst (λ (u : ℕ). OneAsks n j u w₁) (sym (reads_now.up j b))
        (asks_in reads_now now b a.small g.room fits)

    -- it is numbered
    pub number_step : {w₂ : List ℕ} → j < n → Numbers n j (region 1 n w₁ j) w₁ w₂ → NumberLoop n w₀ w₂ (j + 1)
    number_step {w₂} b q =
        let o = numbers_only (omega (arith, reads_now.up j b, a.earlier j now.some b)) q in
        record {
          room = omega (arith, g.room, o.same_length);
          ranking = λ p s h r.
              (let r₁ = reads_kept g.only r in
              step_in r₁ (g.ranking p s h r) b g.room (subst (λ (u : ℕ). Numbers n j u w₁ w₂) (r₁.up j b) q));
          only = only_trans g.only o;
        }
