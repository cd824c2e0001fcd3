-- Sums over the values of a function that never gives a number twice, and sums of tests.
use Prim.Native.Nat.{ℕ, zero, suc, ◌+◌, ◌≤◌, ◌<◌}
use native.Mathlib.Omega.{arith}
use mathlib.Core.Path.{◌≡◌, refl, sym, ap, ◌∙◌}
use mathlib.Core.Logic.{◌≢◌}
use mathlib.Core.Bool.{Bool, true, false}
use lib.Dec.{eqb}
use borrow.Author.Tests.{eq-eqb, ne_eqb}
use Rattle.sums.specs.Sum.{tally, sum, how_many}
use Rattle.sums.proofs.Sums.{equal_or_not, sum_ext, sum_none, sum_mono, sum_add, sum_ones, sum_change}
use Rattle.sums.proofs.Pigeon.{Injective, Maps}

-- f with 0 at v
without : (ℕ → ℕ) → ℕ → ℕ → ℕ
without f v x = elim (eqb x v) [ true ↦ 0 | false ↦ f x ]

without_here : (f : ℕ → ℕ) (v x : ℕ) → x ≡ v → without f v x ≡ 0
unfolding without
without_here f v x e = rw (eq-eqb x v e, without) refl

without_there : (f : ℕ → ℕ) (v x : ℕ) → x ≢ v → without f v x ≡ f x
unfolding without
without_there f v x ne = rw (ne_eqb x v ne, without) refl

-- one term taken out of a sum
take_out : (n v : ℕ) (f : ℕ → ℕ) → v < n → sum n f ≡ sum n (without f v) + f v
take_out n v f h =
    let z : without f v v ≡ 0 = without_here f v v refl in
    sum_change n v (f v) (without f v) f h (omega arith) (λ x hx ne. sym (without_there f v x ne))

-- the terms of the other values stay
others_stay : (t : ℕ) (q f : ℕ → ℕ) → Injective (suc t) q → sum t (λ l. without f (q t) (q l)) ≡ sum t (λ l. f (q l))
others_stay t q f inj =
    sum_ext t (λ l. without f (q t) (q l)) (λ l. f (q l))
    (λ l hl. without_there f (q t) (q l) (λ e. (let z = inj l t (omega arith) (omega arith) e in omega arith)))

-- a sum whose terms are 0 but at the values of q goes through the values
pub sum_image : (t n : ℕ) (q f : ℕ → ℕ) → Injective t q → Maps t n q → ((x : ℕ) → x < n → ((l : ℕ) → l < t → q l ≢ x) → f x ≡ 0) → sum n f ≡ sum t (λ l. f (q l))
sum_image zero n q f inj maps none = sum_none n f (λ x h. none x h (λ l b. absurd (omega arith)))
sum_image (suc t) n q f inj maps none =
    let rest : sum n (without f (q t)) ≡ sum t (λ l. without f (q t) (q l))
    = sum_image t n q (without f (q t)) (λ i j a b. inj i j (omega arith) (omega arith)) (λ i a. maps i (omega arith))
    (λ x hx f0. equal_or_not x (q t) (without_here f (q t) x)
    (λ ne. without_there f (q t) x ne ∙ none x hx (λ l hl e. equal_or_not l t (λ lt. ne (sym e ∙ ap q lt)) (λ lt. f0 l (omega arith) e)))) in
    omega (arith, others_stay t q f inj, take_out n (q t) f (maps t (omega arith)))

-- a sum is no less than the sum over the values alone
sum_values : (t n : ℕ) (q f : ℕ → ℕ) → Injective t q → Maps t n q → sum t (λ l. f (q l)) ≤ sum n f
sum_values zero n q f inj maps = omega arith
sum_values (suc t) n q f inj maps =
    let rest = sum_values t n q (without f (q t)) (λ i j a b. inj i j (omega arith) (omega arith)) (λ i a. maps i (omega arith)) in
    omega (arith, others_stay t q f inj, take_out n (q t) f (maps t (omega arith)))

-- no more numbers than pass the test, where all do and none comes twice
pub few_pass : (t n : ℕ) (q : ℕ → ℕ) (b : ℕ → Bool) → Injective t q → Maps t n q → ((l : ℕ) → l < t → b (q l) ≡ true) → t ≤ how_many n b
few_pass t n q b inj maps pass =
    let s = sum_values t n q (λ x. tally (b x)) inj maps in
    let e : how_many t (λ l. b (q l)) ≡ t = sum_ext t (λ l. tally (b (q l))) (λ l. 1) (λ l h. ap tally (pass l h)) ∙ sum_ones t in
    omega arith

-- a test that passes only where another does counts no more
tally_le : (a b : Bool) → (a ≡ true → b ≡ true) → tally a ≤ tally b
tally_le true b f = (let e = ap tally (f refl) in omega arith)
tally_le false b f = omega arith

-- so it passes no more often
pub how_many_le : (t : ℕ) (a b : ℕ → Bool) → ((l : ℕ) → l < t → a l ≡ true → b l ≡ true) → how_many t a ≤ how_many t b
how_many_le t a b f = sum_mono t (λ l. tally (a l)) (λ l. tally (b l)) (λ l h. tally_le (a l) (b l) (f l h))

-- two tests that never pass both count no more than all
pub how_many_apart : (t : ℕ) (a b : ℕ → Bool) → ((l : ℕ) → l < t → a l ≡ true → b l ≡ false) → how_many t a + how_many t b ≤ t
how_many_apart t a b f =
    let s = sum_add t (λ l. tally (a l)) (λ l. tally (b l)) in
    let m = sum_mono t (λ l. tally (a l) + tally (b l)) (λ l. 1) (λ l h. one (a l) (b l) (f l h)) in
    let o = sum_ones t in
    omega arith
  where
    one : (x y : Bool) → (x ≡ true → y ≡ false) → tally x + tally y ≤ 1
    one true y f = (let e = ap tally (f refl) in omega arith)
    one false true f = omega arith
    one false false f = omega arith

-- a test that all pass counts all
pub how_many-all : (t : ℕ) (a : ℕ → Bool) → ((l : ℕ) → l < t → a l ≡ true) → how_many t a ≡ t
how_many-all t a f = sum_ext t (λ l. tally (a l)) (λ l. 1) (λ l h. ap tally (f l h)) ∙ sum_ones t

-- tests that agree count the same
pub how_many_same : (t : ℕ) (a b : ℕ → Bool) → ((l : ℕ) → l < t → a l ≡ b l) → how_many t a ≡ how_many t b
how_many_same t a b f = sum_ext t (λ l. tally (a l)) (λ l. tally (b l)) (λ l h. ap tally (f l h))
