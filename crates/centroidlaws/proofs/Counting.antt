-- How many numbers below n pass a test.
use Prim.Native.Nat.{ℕ, ◌≤◌, ◌<◌}
use native.Mathlib.Omega.{arith}
use mathlib.Core.Path.{◌≡◌, ap}
use mathlib.Core.Bool.{Bool, true}
use Rattle.sums.specs.Sum.{tally, how_many}
use Rattle.sums.proofs.Sums.{tally_small, sum_mono, sum_ones, sum_term}

-- at most n of the numbers below n pass a test
pub many_bound : (n : ℕ) (t : ℕ → Bool) → how_many n t ≤ n
many_bound n t =
    let a = sum_mono n (λ x. tally (t x)) (λ x. 1) (λ x b. tally_small (t x)) in
    let b = sum_ones n in
    omega arith

-- one that passes is counted
pub many-some : (n : ℕ) (t : ℕ → Bool) {x : ℕ} → x < n → t x ≡ true → 0 < how_many n t
many-some n t {x} h e =
    let a = sum_term n x (λ i. tally (t i)) h in
    let b = ap tally e in
    omega arith
