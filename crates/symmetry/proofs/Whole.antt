-- The whole test: what each call hands to the next, and the answer. Work is w₀ at first, and w₁, w₂, w₃ and w₄ after the calls.
use Prim.Native.Nat.{ℕ, ◌+◌}
use native.Mathlib.Omega.{arith}
use mathlib.Core.Path.{◌≡◌, sym, subst, ◌∙◌}
use mathlib.Core.Bool.{Bool, true, false, false≢true}
use mathlib.Core.List.{List}
use lib.ListN.{length}
use Rattle.sums.specs.Sum.{at}
use Rattle.graph.specs.Work.{Only}
use Rattle.graph.proofs.Frames.{only_trans, only_wider}
use Rattle.symmetry.specs.Symmetry.{SymmetryAsks, SymmetryAnswers}
use Rattle.symmetry.specs.Inner.{Turns, Turned, turned, StartAnswers, TurnAnswers, BackAsks, BackAnswers}
use Rattle.symmetry.proofs.LoopBack.{keeps-turned}
use Rattle.symmetry.proofs.Lists.{lent_starts, lent_end, symmetric_turns, turns_symmetric}

-- lists are even if their turned lists are, and the other way round
pub even-from-turned : (n : ℕ) (o X T : ℕ → ℕ) → Turns n o X T → Turns n o T T → Turns n o X X
even-from-turned n o X T t even v x hv hx = sym (t x v hx hv) ∙ even x v hx hv ∙ t v x hv hx

pub even_to-turned : (n : ℕ) (o X T : ℕ → ℕ) → Turns n o X T → Turns n o X X → Turns n o T T
even_to-turned n o X T t even v x hv hx = t v x hv hx ∙ even x v hx hv ∙ sym (t x v hx hv)

module _ {os ts : List ℕ} {n base : ℕ} {w₀ w₁ : List ℕ} (a : SymmetryAsks os ts n base w₀) (s₁ : StartAnswers os n base w₀ w₁) where
  only_turn : {w₂ : List ℕ} {r : Bool} → TurnAnswers os ts n base w₁ w₂ r → Only base (base + n + length ts) w₀ w₂
  only_turn t = only_trans (only_wider (omega arith) (omega arith) s₁.only) t.only

  -- where it refuses, so does the test
  pub first_refuses : {w₂ : List ℕ} {r : Bool} → TurnAnswers os ts n base w₁ w₂ r → r ≡ false → SymmetryAnswers os ts n base w₀ w₂ false
  first_refuses t q =
      record {
        right = λ p. absurd (false≢true p);
        wrong = λ p sy. t.wrong q (symmetric_turns a.size a.offsets sy);
        only = only_turn t;
      }

  module _ {w₂ w₃ : List ℕ} {r : Bool} (t : TurnAnswers os ts n base w₁ w₂ r) (q : r ≡ true) (s₃ : StartAnswers os n base w₂ w₃) where
    turned₃ : Turned n (at os) (at ts) (turned n base w₃)
    turned₃ = subst (λ (T : ℕ → ℕ). Turned n (at os) (at ts) T) (keeps-turned n base s₃.only) (t.right q)

    -- `turn_back` may be called
    pub to_back : BackAsks os n base w₃
    to_back =
        record {
          lists =
              record {
                size = omega (arith, a.size, a.some_vertex);
                small = a.small;
                starts = lent_starts a.size a.offsets;
                room = omega (arith, a.room, lent_end a.size a.offsets, (only_turn t).same_length, s₃.only.same_length);
                below = turned₃.below;
                ascends = turned₃.ascends;
              };
          at_start = s₃.at_start;
        }

    -- and its answer is the test's
    pub whole : {w₄ : List ℕ} {b : Bool} → BackAnswers os n base w₃ w₄ b → SymmetryAnswers os ts n base w₀ w₄ b
    whole back =
        record {
          right = λ p. turns_symmetric a.size a.offsets (even-from-turned n (at os) (at ts) (turned n base w₃) turned₃.counts (back.right p));
          wrong = λ p sy. back.wrong p (even_to-turned n (at os) (at ts) (turned n base w₃) turned₃.counts (symmetric_turns a.size a.offsets sy));
          only =
              only_trans (only_turn t) (only_wider (omega arith) (omega arith) (only_trans s₃.only back.only));
        }
