-- Laws of decimal numbers: the last digit by itself, more digits than needed, and how long a number is.
use Prim.Native.Nat.{ℕ, zero, suc, ◌+◌, ◌/◌, ◌%◌, ◌^◌, ◌≤◌, ◌<◌}
use native.Mathlib.Omega.{arith}
use native.Mathlib.Decide.{dec_lt}
use native.Mathlib.Nat.{pow-succ'}
use mathlib.Core.Path.{◌≡◌, sym, ap, ◌∙◌}
use mathlib.Core.Logic.{by_cases}
use mathlib.Core.List.{List, [], ◌∷◌, ◌++◌}
use lib.ListN.{length, length-append}
use borrow.Author.Tests.{lt-ltb, le-ltb}
use Rattle.treefile.specs.Sizes.{most_digits}
use Rattle.treefile.specs.Report.{digits_in, decimal}

digits_low : (k x : ℕ) → x < 10 → digits_in (suc k) x ≡ (48 + x) ∷ []
unfolding digits_in
digits_low k x h = rw (lt-ltb x 10 h, digits_in)

digits_high : (k x : ℕ) → 10 ≤ x → digits_in (suc k) x ≡ digits_in k (x / 10) ++ ((48 + x % 10) ∷ [])
unfolding digits_in
digits_high k x h = rw (le-ltb x 10 h, digits_in)

-- a number below 10 has one digit; else its tenth has one digit less
by_digits : {C : Type 0} (x : ℕ) → (x < 10 → C) → (10 ≤ x → C) → C
by_digits x low high = by_cases (dec_lt x 10) low (λ ge. high (omega arith))

tenth : (k x : ℕ) → x < 10 ^ suc k → x / 10 < 10 ^ k
tenth k x h = let e = pow-succ' 10 k in omega arith

-- one more digit than is needed changes nothing
digits_enough : (k x : ℕ) → x < 10 ^ suc k → digits_in (suc (suc k)) x ≡ digits_in (suc k) x
digits_enough zero x h = digits_low 1 x h ∙ sym (digits_low 0 x h)
digits_enough (suc k) x h =
    by_digits x
    (λ low. digits_low (suc (suc k)) x low ∙ sym (digits_low (suc k) x low))
    (λ high.
    digits_high (suc (suc k)) x high
    ∙ ap (λ (l : List ℕ). l ++ ((48 + x % 10) ∷ [])) (digits_enough k (x / 10) (tenth (suc k) x h))
    ∙ sym (digits_high (suc k) x high))

-- a number of at most k digits is written in at most k bytes
digits_short : (j k x : ℕ) → x < 10 ^ suc j → length (digits_in k x) ≤ suc j
unfolding digits_in
digits_short j zero x h = omega arith
digits_short zero (suc k) x h = let e = ap length (digits_low k x h) in omega arith
digits_short (suc j) (suc k) x h =
    by_digits x
    (λ low. let e = ap length (digits_low k x low) in omega arith)
    (λ high.
    let e = ap length (digits_high k x high) ∙ length-append (digits_in k (x / 10)) ((48 + x % 10) ∷ []) in
    let rest = digits_short j k (x / 10) (tenth (suc j) x h) in
    omega arith)

digits_room : (k x : ℕ) → length (digits_in k x) ≤ k
unfolding digits_in
digits_room zero x = omega arith
digits_room (suc k) x =
    by_digits x
    (λ low. let e = ap length (digits_low k x low) in omega arith)
    (λ high.
    let e = ap length (digits_high k x high) ∙ length-append (digits_in k (x / 10)) ((48 + x % 10) ∷ []) in
    let rest = digits_room k (x / 10) in
    omega arith)

-- a number below 10 is one digit
pub decimal_low : (x : ℕ) → x < 10 → decimal x ≡ (48 + x) ∷ []
decimal_low x h = digits_low 19 x h

-- a greater one is its tenth and its last digit
pub decimal_high : (x : ℕ) → 10 ≤ x → x < 2 ^ 64 → decimal x ≡ decimal (x / 10) ++ ((48 + x % 10) ∷ [])
decimal_high x high h =
    digits_high 19 x high ∙ ap (λ (l : List ℕ). l ++ ((48 + x % 10) ∷ [])) (sym (digits_enough 18 (x / 10) (omega arith)))

-- a number below 10 to the k has at most k digits
pub decimal_digits : (k x : ℕ) → 0 < k → x < 10 ^ k → length (decimal x) ≤ k
decimal_digits zero x some h = absurd (omega arith)
decimal_digits (suc k) x some h = digits_short k most_digits x h

-- no number has more than the most
pub decimal_room : (x : ℕ) → length (decimal x) ≤ most_digits
decimal_room x = digits_room most_digits x
