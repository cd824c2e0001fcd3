-- The pigeonhole: functions below n that never give a number twice, or that give every number.
use Prim.Native.Nat.{ℕ, zero, suc, ◌≤◌, ◌<◌}
use native.Mathlib.Omega.{arith}
use native.Mathlib.Decide.{dec_lt}
use mathlib.Core.Path.{◌≡◌, refl, sym, ap, ◌∙◌}
use mathlib.Core.Logic.{by_cases}
use mathlib.Core.Bool.{Bool, true, false}
use lib.Dec.{eqb}
use borrow.Author.Tests.{eqb-true}
use Rattle.sums.specs.Sum.{tally, sum, how_many}
use Rattle.sums.proofs.Sums.{equal_or_not, tally_same, tally_other, tally_sym, sum_ext, sum_mono, sum_ones, sum_swap, sum_once, sum_none, sum_tight}

-- no two numbers below n have one value
abbrev pub Injective : ℕ → (ℕ → ℕ) → Type 0
Injective n f = (i j : ℕ) → i < n → j < n → f i ≡ f j → i ≡ j

-- the numbers below n have values below m
abbrev pub Maps : ℕ → ℕ → (ℕ → ℕ) → Type 0
Maps n m f = (i : ℕ) → i < n → f i < m

-- each number below m is the value of a number below n
abbrev pub Onto : ℕ → ℕ → (ℕ → ℕ) → Type 0
Onto n m f = (y : ℕ) → y < m → (x : ℕ) × (x < n) × (f x ≡ y)

-- how many numbers below n have the value y
abbrev pub hits : ℕ → (ℕ → ℕ) → ℕ → ℕ
hits n f y = sum n (λ i. tally (eqb (f i) y))

-- every number below n has a value below m, so all hits together are n
pub hits-all : (n m : ℕ) (f : ℕ → ℕ) → Maps n m f → sum m (hits n f) ≡ n
hits-all n m f maps =
    sym (sum_swap n m (λ i y. tally (eqb (f i) y)))
    ∙ sum_ext n (λ i. sum m (λ y. tally (eqb (f i) y))) (λ i. 1)
    (λ i h. sum_ext m (λ y. tally (eqb (f i) y)) (λ y. tally (eqb y (f i))) (λ y b. tally_sym (f i) y) ∙ sum_once m (f i) (maps i h))
    ∙ sum_ones n

-- an injective function hits a number at most once
pub hits_once : (n : ℕ) (f : ℕ → ℕ) (y : ℕ) → Injective n f → hits n f y ≤ 1
hits_once zero f y inj = omega arith
hits_once (suc n) f y inj =
    equal_or_not (f n) y
    (λ e.
    let before = sum_none n (λ i. tally (eqb (f i) y)) (λ i h. tally_other (f i) y (λ q. omega (arith, inj i n (omega arith) (omega arith) (q ∙ sym e)))) in
    omega (arith, tally_same (f n) y e))
    (λ d. omega (arith, tally_other (f n) y d, hits_once n f y (λ i j a b. inj i j (omega arith) (omega arith))))

-- one that passes the test, where there is one
pub some_passes : (n : ℕ) (t : ℕ → Bool) → 0 < how_many n t → (i : ℕ) × (i < n) × (t i ≡ true)
some_passes zero t h = absurd (omega arith)
some_passes (suc n) t h = last_or-before (t n) refl (some_passes n t)
  where
    last_or-before : (b : Bool) → t n ≡ b → (0 < how_many n t → (i : ℕ) × (i < n) × (t i ≡ true)) → (i : ℕ) × (i < suc n) × (t i ≡ true)
    last_or-before true e before = (n, omega arith, e)
    last_or-before false e before =
        let z = ap tally e in
        let r = before (omega arith) in
        (r.0, omega arith, r.2)

-- no more pigeons than holes
pub injective_le : (n m : ℕ) (f : ℕ → ℕ) → Injective n f → Maps n m f → n ≤ m
injective_le n m f inj maps =
    omega (arith, hits-all n m f maps, sum_ones m, sum_mono m (hits n f) (λ y. 1) (λ y h. hits_once n f y inj))

-- injective from the numbers below n to themselves is onto
pub injective_onto : (n : ℕ) (f : ℕ → ℕ) → Injective n f → Maps n n f → Onto n n f
injective_onto n f inj maps y h =
    let one : hits n f y ≡ 1
    = sum_tight n (hits n f) (λ y. 1) (λ y b. hits_once n f y inj) (omega (arith, hits-all n n f maps, sum_ones n)) y h in
    let r = some_passes n (λ i. eqb (f i) y) (omega arith) in
    (r.0, r.1, eqb-true (f r.0) y r.2)

-- a number for each y below m, as a function
pub choose : (m : ℕ) (P : ℕ → ℕ → Type 0) → ((y : ℕ) → y < m → (x : ℕ) × P y x) → (g : ℕ → ℕ) × ((y : ℕ) → y < m → P y (g y))
choose m P some = (λ y. (chosen y).0, λ y. (chosen y).1)
  where
    chosen : (y : ℕ) → (x : ℕ) × (y < m → P y x)
    chosen y = by_cases (dec_lt y m) (λ h. ((some y h).0, λ b. (some y h).1)) (λ d. (0, λ h. absurd (d h)))

-- an onto function has a right inverse
pub onto_inverse : (n m : ℕ) (f : ℕ → ℕ) → Onto n m f → (g : ℕ → ℕ) × Maps m n g × ((y : ℕ) → y < m → f (g y) ≡ y)
onto_inverse n m f onto =
    let r = choose m (λ y x. (x < n) × (f x ≡ y)) (λ y h. ((onto y h).0, ((onto y h).1, (onto y h).2))) in
    (r.0, λ y h. (r.1 y h).0, λ y h. (r.1 y h).1)

-- and an injective one below n an inverse
pub injective_inverse : (n : ℕ) (f : ℕ → ℕ) → Injective n f → Maps n n f
    → (g : ℕ → ℕ) × Maps n n g × ((y : ℕ) → y < n → f (g y) ≡ y) × ((x : ℕ) → x < n → g (f x) ≡ x)
injective_inverse n f inj maps =
    let r = onto_inverse n n f (injective_onto n f inj maps) in
    (r.0, r.1, r.2, λ x h. inj (r.0 (f x)) x (r.1 (f x) (maps x h)) h (r.2 (f x) (maps x h)))

-- no more values than numbers
pub onto_le : (n m : ℕ) (f : ℕ → ℕ) → Onto n m f → m ≤ n
onto_le n m f onto =
    let r = onto_inverse n m f onto in
    injective_le m n r.0 (λ i j a b e. sym (r.2 i a) ∙ ap f e ∙ r.2 j b) r.1
