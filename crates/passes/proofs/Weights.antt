-- The loop of `weigh` over work.
use Prim.Native.Nat.{ℕ, ◌+◌, ◌-◌, ◌*◌, ◌≤◌, ◌<◌}
use native.Mathlib.Omega.{arith}
use mathlib.Core.Path.{◌≡◌, refl, ◌∙◌, subst}
use mathlib.Core.List.{List}
use lib.ListN.{length}
use Rattle.graph.specs.Work.{Only}
use Rattle.graph.proofs.Frames.{only_refl, only_trans}
use Rattle.passes.specs.Passes.{region, WeighAsks, WeighAnswers}
use Rattle.passes.specs.Inner.{StartAnswers, HandAsks, HandedOn, HandAnswers}
use Rattle.passes.proofs.Weighing.{Weighing, weighing_start, weighing_step, weighing-done, best_below, sizes_fit}

-- work where the loop of `weigh` began is w₀: for the parents that stand there, the positions from `left` on are handed on
pub record WeighLoop (n : ℕ) (w₀ w : List ℕ) (left : ℕ) : Type 0 where
  pub in_range : left ≤ n
  pub room : 8 * n ≤ length w
  pub weighing : (p : ℕ → ℕ) → ((k : ℕ) → k < n → region 1 n w₀ k ≡ p k) → Weighing n p (region 2 n w) (region 3 n w) left
  pub only : Only (2 * n) (4 * n) w₀ w

-- w is work at the call of `weigh`, w₀ after `start_weights`
module _ {n : ℕ} {w w₀ : List ℕ} (a : WeighAsks n w) (t : StartAnswers n w w₀) where
  parent_start : (k : ℕ) → k < n → region 1 n w₀ k ≡ region 1 n w k
  parent_start k b = t.only.before (1 * n + k) (omega arith)

  -- nothing is handed on yet
  pub weigh_start : WeighLoop n w₀ w₀ n
  weigh_start =
      record {
        in_range = omega arith;
        room = omega (arith, a.room, t.only.same_length);
        weighing = λ p same. weighing_start p a.some_vertex t.ones t.none;
        only = only_refl (2 * n) (4 * n) w₀;
      }

  -- all is handed on
  pub weigh-done : {w₁ : List ℕ} {left : ℕ} → WeighLoop n w₀ w₁ left → left ≤ 1 → WeighAnswers n w w₁
  weigh-done g few = record { weighed = weighing-done (g.weighing (region 1 n w) parent_start) few; only = only_trans t.only g.only }

  -- position j is in hand
  module _ {w₁ : List ℕ} (j : ℕ) (g : WeighLoop n w₀ w₁ (j + 1)) (some : 1 ≤ j) where
    below : j < n
    below = omega (arith, g.in_range)

    -- its parent is where it was
    parent_now : region 1 n w₁ j ≡ region 1 n w₀ j
    parent_now = g.only.before (1 * n + j) (omega (arith, below))

    earlier_now : region 1 n w₁ j < j
    earlier_now = omega (arith, parent_now, parent_start j below, a.earlier j some below)

    hands : HandAsks n j (region 1 n w₁ j) w₁
    hands =
        let f = g.weighing (region 1 n w₀) (λ k b. refl) in
        record {
          small = a.small;
          room = g.room;
          position = below;
          up_below = omega (arith, below, earlier_now);
          best_below = best_below j f (region 1 n w₁ j) (omega (arith, below, earlier_now));
          fits = omega (arith, sizes_fit j f (region 1 n w₁ j) earlier_now, a.small);
        }

    step : {w₂ : List ℕ} → HandAnswers n j (region 1 n w₁ j) w₁ w₂ → WeighLoop n w₀ w₂ j
    step {w₂} d =
        record {
          in_range = omega (arith, below);
          room = omega (arith, g.room, d.only.same_length);
          weighing = λ p same.
              (let e : region 1 n w₁ j ≡ p j = parent_now ∙ same j below in
              weighing_step j (g.weighing p same) some (subst (λ (u : ℕ). u < j) e earlier_now)
              (subst (λ (u : ℕ). HandedOn n j u (region 2 n w₁) (region 3 n w₁) (region 2 n w₂) (region 3 n w₂)) e d.handed));
          only = only_trans g.only d.only;
        }

  module _ {w₁ : List ℕ} {left : ℕ} (g : WeighLoop n w₀ w₁ left) (more : 1 < left) where
    last : WeighLoop n w₀ w₁ (left - 1 + 1)
    last = subst (λ (k : ℕ). WeighLoop n w₀ w₁ k) (let e : left ≡ left - 1 + 1 = omega arith in e) g

    -- the last position that is left may be handed on
    pub weigh_hands : HandAsks n (left - 1) (region 1 n w₁ (left - 1)) w₁
    weigh_hands = hands (left - 1) last (omega arith)

    -- it is handed on
    pub weigh_step : {w₂ : List ℕ} → HandAnswers n (left - 1) (region 1 n w₁ (left - 1)) w₁ w₂ → WeighLoop n w₀ w₂ (left - 1)
    weigh_step = step (left - 1) last (omega arith)
