-- Counting by tests: all numbers pass or the rest does.
use Prim.Native.Nat.{ℕ, ◌+◌, ◌<◌}
use native.Mathlib.Omega.{arith}
use mathlib.Core.Path.{◌≡◌, refl, sym, ap, ◌∙◌}
use mathlib.Core.Bool.{Bool, true, false, not, true≢false}
use Rattle.sums.specs.Sum.{tally, how_many}
use Rattle.sums.proofs.Sums.{sum_ext, sum_add, sum_ones}

-- a test that does not pass, passes turned round
pub not_pass : (b : Bool) → (b ≡ true → ⊥) → not b ≡ true
not_pass true f = absurd (f refl)
not_pass false f = refl

-- and not both do
pub pass_not : (b : Bool) → b ≡ true → not b ≡ true → ⊥
pass_not true e f = true≢false (sym f)
pass_not false e f = true≢false (sym e)

-- where each number below n passes, n do
pub all_pass : (n : ℕ) (t : ℕ → Bool) → ((x : ℕ) → x < n → t x ≡ true) → how_many n t ≡ n
all_pass n t h = sum_ext n (λ x. tally (t x)) (λ x. 1) (λ x b. ap tally (h x b)) ∙ sum_ones n

-- what passes and the rest are all
pub pass-rest : (n : ℕ) (t : ℕ → Bool) → how_many n t + how_many n (λ x. not (t x)) ≡ n
pass-rest n t =
    sym (sum_add n (λ x. tally (t x)) (λ x. tally (not (t x))))
    ∙ sum_ext n (λ x. tally (t x) + tally (not (t x))) (λ x. 1) (λ x b. one (t x))
    ∙ sum_ones n
  where
    one : (b : Bool) → tally b + tally (not b) ≡ 1
    one true = omega arith
    one false = omega arith
