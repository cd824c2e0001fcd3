-- Laws of finite sums.
use Prim.Native.Nat.{ℕ, zero, suc, ◌+◌, ◌*◌, ◌-◌, ◌≤◌, ◌<◌}
use native.Mathlib.Omega.{arith}
use native.Mathlib.Decide.{ℕ_discrete}
use native.Mathlib.Nat.{zero-mul, suc-mul}
use mathlib.Core.Path.{◌≡◌, refl, sym, ap, ap₂, subst, ◌∙◌}
use mathlib.Core.Logic.{◌≢◌, by_cases}
use mathlib.Core.Bool.{Bool, true, false}
use lib.Dec.{eqb}
use borrow.Author.Tests.{eq-eqb, ne_eqb}
use Rattle.sums.specs.Sum.{tally, sum}

-- two numbers are equal or not
pub equal_or_not : {C : Type 0} (a b : ℕ) → (a ≡ b → C) → (a ≢ b → C) → C
equal_or_not a b = by_cases (ℕ_discrete a b)

-- equal numbers pass the test
-- a number up to t is below it or is t
pub up_to : {C : Type 0} (j t : ℕ) → j < t + 1 → (j < t → C) → (j ≡ t → C) → C
up_to j t h below same = equal_or_not j t same (λ ne. below (omega arith))

pub tally_same : (a b : ℕ) → a ≡ b → tally (eqb a b) ≡ 1
tally_same a b e = ap tally (eq-eqb a b e)

-- others do not
pub tally_other : (a b : ℕ) → a ≢ b → tally (eqb a b) ≡ 0
tally_other a b d = ap tally (ne_eqb a b d)

-- the test does not go by the order
pub tally_sym : (a b : ℕ) → tally (eqb a b) ≡ tally (eqb b a)
tally_sym a b =
    equal_or_not a b (λ e. tally_same a b e ∙ sym (tally_same b a (sym e)))
    (λ d. tally_other a b d ∙ sym (tally_other b a (λ e. d (sym e))))

-- a test counts at most 1
pub tally_small : (t : Bool) → tally t ≤ 1
tally_small true = omega arith
tally_small false = omega arith

-- equal terms, equal sums
pub sum_ext : (n : ℕ) (f g : ℕ → ℕ) → ((i : ℕ) → i < n → f i ≡ g i) → sum n f ≡ sum n g
sum_ext zero f g h = refl
sum_ext (suc n) f g h = ap₂ ◌+◌ (sum_ext n f g (λ i b. h i (omega arith))) (h n (omega arith))

-- no greater terms, no greater sum
pub sum_mono : (n : ℕ) (f g : ℕ → ℕ) → ((i : ℕ) → i < n → f i ≤ g i) → sum n f ≤ sum n g
sum_mono zero f g h = omega arith
sum_mono (suc n) f g h = omega (arith, sum_mono n f g (λ i b. h i (omega arith)), h n (omega arith))

-- the sum of two functions
pub sum_add : (n : ℕ) (f g : ℕ → ℕ) → sum n (λ i. f i + g i) ≡ sum n f + sum n g
sum_add zero f g = refl
sum_add (suc n) f g = omega (arith, sum_add n f g)

-- n times c
pub sum_const : (n c : ℕ) → sum n (λ i. c) ≡ n * c
sum_const zero c = sym (zero-mul c)
sum_const (suc n) c = omega (arith, sum_const n c, suc-mul n c)

-- n ones
pub sum_ones : (n : ℕ) → sum n (λ i. 1) ≡ n
sum_ones zero = refl
sum_ones (suc n) = omega (arith, sum_ones n)

-- zeros
pub sum_zeros : (n : ℕ) → sum n (λ i. 0) ≡ 0
sum_zeros zero = refl
sum_zeros (suc n) = omega (arith, sum_zeros n)

-- terms that are all zero
pub sum_none : (n : ℕ) (f : ℕ → ℕ) → ((i : ℕ) → i < n → f i ≡ 0) → sum n f ≡ 0
sum_none n f h = sum_ext n f (λ i. 0) h ∙ sum_zeros n

-- two sums change places
pub sum_swap : (n m : ℕ) (f : ℕ → ℕ → ℕ) → sum n (λ i. sum m (λ j. f i j)) ≡ sum m (λ j. sum n (λ i. f i j))
sum_swap zero m f = sym (sum_zeros m)
sum_swap (suc n) m f = omega (arith, sum_swap n m f, sum_add m (λ j. sum n (λ i. f i j)) (f n))

-- the first n + m terms: the first n, then m more
pub sum_split : (n m : ℕ) (f : ℕ → ℕ) → sum (n + m) f ≡ sum n f + sum m (λ i. f (n + i))
sum_split n zero f =
    let e : n + 0 ≡ n = omega arith in
    omega (arith, ap (λ (k : ℕ). sum k f) e)
sum_split n (suc m) f =
    let e : n + suc m ≡ suc (n + m) = omega arith in
    omega (arith, ap (λ (k : ℕ). sum k f) e, sum_split n m f)

-- the first term comes first
pub sum-front : (n : ℕ) (f : ℕ → ℕ) → sum (suc n) f ≡ f 0 + sum n (λ i. f (suc i))
sum-front zero f = omega arith
sum-front (suc n) f = omega (arith, sum-front n f)

-- fewer terms, no greater sum
pub sum_shorter : (n m : ℕ) (f : ℕ → ℕ) → n ≤ m → sum n f ≤ sum m f
sum_shorter n m f h =
    let e : n + (m - n) ≡ m = omega arith in
    omega (arith, ap (λ (k : ℕ). sum k f) e, sum_split n (m - n) f)

-- one term is at most the sum
pub sum_term : (n k : ℕ) (f : ℕ → ℕ) → k < n → f k ≤ sum n f
sum_term n k f h = omega (arith, sum_shorter (suc k) n f h)

-- terms that are no greater, with a sum that is no less, are equal
pub sum_tight : (n : ℕ) (f g : ℕ → ℕ) → ((i : ℕ) → i < n → f i ≤ g i) → sum n g ≤ sum n f → (i : ℕ) → i < n → f i ≡ g i
sum_tight zero f g h s i b = absurd (omega arith)
sum_tight (suc n) f g h s i b =
    let below = sum_mono n f g (λ j c. h j (omega arith)) in
    let last = h n (omega arith) in
    equal_or_not i n (λ e. subst (λ (k : ℕ). f k ≡ g k) (sym e) (omega arith))
    (λ d. sum_tight n f g (λ j c. h j (omega arith)) (omega arith) i (omega arith))

-- one term grows by d, and with it the sum
pub sum_change : (n k d : ℕ) (f g : ℕ → ℕ) → k < n → g k ≡ f k + d → ((i : ℕ) → i < n → i ≢ k → g i ≡ f i) → sum n g ≡ sum n f + d
sum_change zero k d f g h at-k others = absurd (omega arith)
sum_change (suc n) k d f g h at-k others =
    equal_or_not n k
    (λ e.
    let below = sum_ext n g f (λ i b. others i (omega arith) (omega arith)) in
    let z : g n ≡ f n + d = subst (λ (j : ℕ). g j ≡ f j + d) (sym e) at-k in
    omega arith)
    (λ d. omega (arith, sum_change n k _ f g (omega arith) at-k (λ i b. others i (omega arith)), others n (omega arith) d))

-- k stands once among the numbers below n, if it is one of them
pub sum_once : (n k : ℕ) → k < n → sum n (λ i. tally (eqb i k)) ≡ 1
sum_once n k h =
    sum_change n k 1 (λ i. 0) (λ i. tally (eqb i k)) h (tally_same k k refl) (λ i b d. tally_other i k d)
    ∙ omega (arith, sum_zeros n)

-- the same with the test turned round
pub sum-pick : (n k : ℕ) → k < n → sum n (λ i. tally (eqb k i)) ≡ 1
sum-pick n k h = sum_ext n (λ i. tally (eqb k i)) (λ i. tally (eqb i k)) (λ i b. tally_sym k i) ∙ sum_once n k h
