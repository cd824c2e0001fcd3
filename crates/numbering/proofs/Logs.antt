-- Laws of the whole part of the logarithm to base 2.
use Prim.Native.Nat.{ℕ, zero, suc, ◌+◌, ◌*◌, ◌/◌, ◌^◌, ◌≤◌, ◌<◌}
use native.Mathlib.Omega.{arith}
use native.Mathlib.Decide.{dec_le}
use native.Mathlib.Nat.{two-pow-succ, le-div_iff_mul-le, div-lt_iff_lt-mul}
use mathlib.Core.Path.{◌≡◌, refl, sym, ap, ◌∙◌}
use lib.Count.{count_leading_zeros, leading_top}
use lib.Pow.{pow_pos, pow_mono}
use borrow.Author.Tests.{lt-ltb, le-ltb}
use Rattle.numbering.specs.Log.{halvings, log2}

-- 0 and 1 are not halved
pub halvings_small : (k n : ℕ) → n ≤ 1 → halvings k n ≡ 0
unfolding halvings
halvings_small zero n h = refl
halvings_small (suc k) n h = rw (le-ltb 1 n h, halvings)

-- a number from 2 on is halved once more than its half
pub halvings_half : (k n : ℕ) → 2 ≤ n → halvings (suc k) n ≡ suc (halvings k (n / 2))
unfolding halvings
halvings_half k n h = rw (lt-ltb 1 n h, halvings)

-- n steps or more are enough, and then their number does not matter
halvings_same : (k j n : ℕ) → n ≤ k → n ≤ j → halvings k n ≡ halvings j n
halvings_same zero j n h i = halvings_small zero n (omega arith) ∙ sym (halvings_small j n (omega arith))
halvings_same (suc k) zero n h i = halvings_small (suc k) n (omega arith) ∙ sym (halvings_small zero n (omega arith))
halvings_same (suc k) (suc j) n h i = elim (dec_le 2 n) [
  | yes p ↦ rw (halvings_half k n p, halvings_half j n p) (ap suc (halvings_same k j (n / 2) (omega arith) (omega arith)))
  | no q ↦ halvings_small (suc k) n (omega arith) ∙ sym (halvings_small (suc j) n (omega arith))
]

-- with n steps or more, halving n until it is 1 gives its logarithm
pub halvings_enough : (k n : ℕ) → n ≤ k → halvings k n ≡ log2 n
unfolding log2
halvings_enough k n h = halvings_same k n n h (omega arith)

-- the logarithm of a number below 2 is 0
pub log2_small : (n : ℕ) → n ≤ 1 → log2 n ≡ 0
unfolding log2
log2_small n h = halvings_small n n h

-- the logarithm of a number from 2 on is one more than that of its half
pub log2_half : (n : ℕ) → 2 ≤ n → log2 n ≡ log2 (n / 2) + 1
log2_half n h =
    let a = halvings_enough (suc n) n (omega arith) in
    let b = halvings_half n n h in
    let c = halvings_enough n (n / 2) (omega arith) in
    omega arith

-- n is at least 2 to its logarithm and below the next power
log2_bounds : (k n : ℕ) → n ≤ k → 1 ≤ n → (2 ^ log2 n ≤ n) × (n < 2 ^ suc (log2 n))
log2_bounds zero n h p = absurd (omega arith)
log2_bounds (suc k) n h p = elim (dec_le 2 n) [
  | no q ↦ rw (log2_small n (omega arith)) (omega arith)
  | yes q ↦
      let e : log2 n ≡ suc (log2 (n / 2)) = let z = log2_half n q in omega arith in
      let i = log2_bounds k (n / 2) (omega arith) (omega arith) in
      let a = two-pow-succ (log2 (n / 2)) in
      let b = two-pow-succ (suc (log2 (n / 2))) in
      rw e (omega arith)
]

-- 2 to the logarithm is at most the number
pub log2_low : (n : ℕ) → 1 ≤ n → 2 ^ log2 n ≤ n
log2_low n p = (log2_bounds n n (omega arith) p).0

-- the next power of 2 is above the number
pub log2_high : (n : ℕ) → n < 2 ^ (log2 n + 1)
log2_high n = elim (dec_le 1 n) [
  | yes p ↦ let e : log2 n + 1 ≡ suc (log2 n) = omega arith in rw e (log2_bounds n n (omega arith) p).1
  | no q ↦ rw (log2_small n (omega arith)) (omega arith)
]

-- the logarithm is the greatest exponent whose power is at most the number
pub log2_greatest : (k n : ℕ) → 2 ^ k ≤ n → k ≤ log2 n
log2_greatest k n h = elim (dec_le k (log2 n)) [
  | yes p ↦ p
  | no q ↦
      let m : 2 ^ (log2 n + 1) ≤ 2 ^ k = pow_mono (omega arith) in
      let b = log2_high n in
      absurd (omega arith)
]

-- where log2 n exceeds k, so does n the next power
beyond : (n k : ℕ) → k < log2 n → 2 ^ suc k ≤ n
beyond n k h = elim (dec_le 2 n) [
  | yes p ↦
      let a : 2 ^ suc k ≤ 2 ^ log2 n = pow_mono (omega arith) in
      let b = log2_low n (omega arith) in
      omega arith
  | no q ↦ let z = log2_small n (omega arith) in absurd (omega arith)
]

-- the bounds determine the logarithm
pub log2_only : (k n : ℕ) → 2 ^ k ≤ n → n < 2 ^ suc k → k ≡ log2 n
log2_only k n low high = elim (dec_le (log2 n) k) [
  | yes p ↦ omega (arith, log2_greatest k n low)
  | no q ↦ let b = beyond n k (omega arith) in absurd (omega arith)
]

-- a number that is 2 or more after k halvings can be halved more than k times
pub log2_more : (n k : ℕ) → 2 ≤ n / 2 ^ k → k < log2 n
log2_more n k h =
    let a : 2 * 2 ^ k ≤ n = (le-div_iff_mul-le (pow_pos k)).0 h in
    let b = two-pow-succ k in
    let c = log2_greatest (suc k) n (omega arith) in
    omega arith

-- and one that is less cannot
pub log2_worn : (n k : ℕ) → n / 2 ^ k < 2 → log2 n ≤ k
log2_worn n k h = elim (dec_le (log2 n) k) [
  | yes g ↦ g
  | no g ↦
      let a : n < 2 * 2 ^ k = (div-lt_iff_lt-mul (pow_pos k)).0 h in
      let b = beyond n k (omega arith) in
      let c = two-pow-succ k in
      absurd (omega arith)
]

-- a number of 64 bits is halved less than 64 times
pub log2_word : (n : ℕ) → n < 2 ^ 64 → log2 n < 64
log2_word n h = elim (dec_le 64 (log2 n)) [
  | no g ↦ omega arith
  | yes g ↦ let b = beyond n 63 (omega arith) in absurd (omega arith)
]

-- A number that is not 0, written with k digits, has its leading zeros, its highest set digit, and below that as many digits as its logarithm says.
pub log2_leading : (k n : ℕ) → 1 ≤ n → n < 2 ^ k → count_leading_zeros k n + suc (log2 n) ≡ k
log2_leading k n p h =
    let top = leading_top k n p h in
    omega (arith, top.1, log2_only top.0 n top.2 top.3)
