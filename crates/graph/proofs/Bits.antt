-- Laws of marks: setting bit k of a word leaves bit k one and the other bits as they were.
use Prim.Native.Nat.{ℕ, suc, ◌+◌, ◌-◌, ◌*◌, ◌<◌, ◌/◌, ◌%◌, ◌^◌}
use native.Mathlib.Omega.{arith}
use native.Mathlib.Nat.{div-eq_of_lt, mod-lt}
use mathlib.Core.Path.{◌≡◌, sym, ap, ◌∙◌, subst}
use mathlib.Core.Logic.{◌≢◌}
use mathlib.Core.List.{List}
use lib.Dec.{eqb}
use lib.Bits.{bit_and, and_mask, bit_or, or_shr, or_mod, or_zero_r, shifted_even}
use lib.Pow.{pow-lt, pow-add, shl-shr, shl_exact}
use lib.ListN.{length, set, length-set}
use Rattle.sums.specs.Sum.{at}
use Rattle.sums.proofs.Sums.{equal_or_not}
use Rattle.graph.specs.Marks.{mark_of, Marks}
use Rattle.graph.proofs.Frames.{at_set_same, at_set_other}

-- bit j of 2 ^ k, for another j
power_bit : (j k : ℕ) → j ≢ k → (1 * 2 ^ k) / 2 ^ j % 2 ≡ 0
power_bit j k ne = equal_or_not (j - k) 0 low high
  where
    one : (m : ℕ) → 1 * m ≡ m
    one m = omega arith

    low : j - k ≡ 0 → (1 * 2 ^ k) / 2 ^ j % 2 ≡ 0
    low h =
        let m : ℕ = k - j - 1 in
        let e : k ≡ suc m + j = omega arith in
        ap (λ (x : ℕ). x / 2 ^ j % 2) (one (2 ^ k) ∙ ap (λ (x : ℕ). 2 ^ x) e ∙ pow-add 2 (suc m) j)
        ∙ ap (λ (x : ℕ). x % 2) (shl-shr (2 ^ suc m) j)
        ∙ ap (λ (x : ℕ). x % 2) (sym (one (2 ^ suc m)))
        ∙ shifted_even 1 m

    high : j - k ≢ 0 → (1 * 2 ^ k) / 2 ^ j % 2 ≡ 0
    high h =
        let lt : 2 ^ k < 2 ^ j = pow-lt (omega arith) in
        ap (λ (x : ℕ). x % 2) (div-eq_of_lt (subst (λ (x : ℕ). x < 2 ^ j) (sym (one (2 ^ k))) lt))

-- bit j of a or b
or_bit : (a b j : ℕ) → bit_or a b / 2 ^ j % 2 ≡ bit_or (a / 2 ^ j % 2) (b / 2 ^ j % 2)
or_bit a b j = ap (λ (x : ℕ). x % 2) (or_shr a b j) ∙ or_mod (a / 2 ^ j) (b / 2 ^ j) 1

or-one : (b : ℕ) → b < 2 → bit_or b 1 ≡ 1
or-one b h = equal_or_not b 0 (λ e. ap (λ (x : ℕ). bit_or x 1) e) (λ ne. ap (λ (x : ℕ). bit_or x 1) (let e : b ≡ 1 = omega arith in e))

pub set_bit : (a k : ℕ) → bit_or a (1 * 2 ^ k) / 2 ^ k % 2 ≡ 1
set_bit a k =
    or_bit a (1 * 2 ^ k) k ∙ ap (λ (x : ℕ). bit_or (a / 2 ^ k % 2) (x % 2)) (shl-shr 1 k) ∙ or-one (a / 2 ^ k % 2) (mod-lt (a / 2 ^ k) (omega arith))

pub keep_bit : (a k j : ℕ) → j ≢ k → bit_or a (1 * 2 ^ k) / 2 ^ j % 2 ≡ a / 2 ^ j % 2
keep_bit a k j ne =
    or_bit a (1 * 2 ^ k) j ∙ ap (λ (x : ℕ). bit_or (a / 2 ^ j % 2) x) (power_bit j k ne) ∙ or_zero_r (a / 2 ^ j % 2)

-- the word of v with its bit set marks v
pub marks-set : (base v : ℕ) (w : List ℕ) → base + v / 32 < length w
    → Marks base v w (set w (base + v / 32) (bit_or (at w (base + v / 32)) (1 * 2 ^ (v % 32))))
marks-set base v w room =
    record {
      same_length = length-set w (base + v / 32) _;
      marked = ap (λ (x : ℕ). x / 2 ^ (v % 32) % 2) (at_set_same w (base + v / 32) _ room) ∙ set_bit (at w (base + v / 32)) (v % 32);
      others = λ x ne. equal_or_not (x / 32) (v / 32)
          (λ e.
          ap (λ (i : ℕ). at (set w (base + v / 32) (bit_or (at w (base + v / 32)) (1 * 2 ^ (v % 32)))) (base + i) / 2 ^ (x % 32) % 2) e
          ∙ ap (λ (y : ℕ). y / 2 ^ (x % 32) % 2) (at_set_same w (base + v / 32) _ room)
          ∙ keep_bit (at w (base + v / 32)) (v % 32) (x % 32) (omega arith)
          ∙ ap (λ (i : ℕ). at w (base + i) / 2 ^ (x % 32) % 2) (sym e))
          (λ ne'. ap (λ (y : ℕ). y / 2 ^ (x % 32) % 2) (at_set_other w (base + v / 32) _ (base + x / 32) (omega arith)));
      elsewhere = λ i ne. at_set_other w (base + v / 32) _ i ne;
    }

-- the same as the code has it: the shifted one is cut to 32 bits, which changes nothing
pub marks_store : (base v : ℕ) (w : List ℕ) → base + v / 32 < length w
    → Marks base v w (set w (base + v / 32) (bit_or (at w (base + v / 32)) ((1 * 2 ^ (v % 32)) % 2 ^ 32)))
marks_store base v w room =
    subst (λ (x : ℕ). Marks base v w (set w (base + v / 32) (bit_or (at w (base + v / 32)) x)))
    (sym (shl_exact {a = 1} 1 (v % 32) 32 (omega arith) (omega arith)))
    (marks-set base v w room)

-- the masked shift of the word of v tells v's mark
pub mark-test : (w : List ℕ) (base v : ℕ) → eqb (bit_and (at w (base + v / 32) / 2 ^ (v % 32)) 1) 1 ≡ eqb (mark_of w base v) 1
mark-test w base v = ap (λ (x : ℕ). eqb x 1) (and_mask (at w (base + v / 32) / 2 ^ (v % 32)) 1)
