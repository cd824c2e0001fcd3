-- What tests that pass tell.
use Prim.Native.Nat.{ℕ, zero, suc, ◌<◌}
use native.Mathlib.Omega.{arith}
use mathlib.Core.Path.{◌≡◌, refl, ap, ap₂, ◌∙◌}
use mathlib.Core.Logic.{◌↔◌, inl, inr}
use mathlib.Core.Bool.{Bool, true, false, false≢true}
use mathlib.Core.List.{List, [], ◌∷◌}
use Rattle.sums.proofs.Sums.{up_to}
use Rattle.paths.specs.Walk.{In}
use Rattle.answers.specs.Choice.{pick, both}
use Rattle.pcases.specs.Cases.{Each}
use Rattle.pcases.specs.Checks.{below, every, some, same_list, all}

-- each test of a list passes
abbrev pub Passed : List Bool → Type 0
Passed [] = Unit {0}
Passed (b ∷ l) = (b ≡ true) × Passed l

-- two tests pass together exactly if each does
pub both_iff : (a b : Bool) → (both a b ≡ true) ↔ ((a ≡ true) × (b ≡ true))
both_iff true b = (λ e. (refl, e), λ p. p.1)
both_iff false b = (λ e. absurd (false≢true e), λ p. p.0)

-- the tests of a list pass together exactly if each does
pub all_iff : (l : List Bool) → (all l ≡ true) ↔ Passed l
all_iff [] = (λ e. tt, λ p. refl)
all_iff (b ∷ l) = (
  λ e. (let p = (both_iff b (all l)).0 e in (p.0, (all_iff l).0 p.1)),
  λ p. (both_iff b (all l)).1 (p.0, (all_iff l).1 p.1),
)

-- the numbers below n pass exactly if each does
pub below_iff : (n : ℕ) (t : ℕ → Bool) → (below n t ≡ true) ↔ ((i : ℕ) → i < n → t i ≡ true)
below_iff zero t = (λ e i h. absurd (omega arith), λ f. refl)
below_iff (suc n) t = (
  λ e i h. (let p = (both_iff (below n t) (t n)).0 e in
      up_to i n (omega arith) (λ b. (below_iff n t).0 p.0 i b) (λ q. ap t q ∙ p.1)),
  λ f. (both_iff (below n t) (t n)).1 ((below_iff n t).1 (λ i h. f i (omega arith)), f n (omega arith)),
)

-- where every entry passes, each has what a passed test tells
pub every_each : {A : Type 0} {P : A → Type 0} (t : A → Bool) → ((x : A) → t x ≡ true → P x) → (l : List A) → every t l ≡ true → Each P l
every_each t f [] e = tt
every_each t f (x ∷ l) e = let p = (both_iff (t x) (every t l)).0 e in (f x p.0, every_each t f l p.1)

-- some entry passes, and this one does
pub some_in : (t : ℕ → Bool) (l : List ℕ) → some t l ≡ true → (x : ℕ) × In x l × (t x ≡ true)
some_in t [] e = absurd (false≢true e)
some_in t (x ∷ l) e = go (t x) refl (some_in t l) e
  where
    go : (b : Bool) → t x ≡ b → (some t l ≡ true → (y : ℕ) × In y l × (t y ≡ true)) → pick b true (some t l) ≡ true
        → (y : ℕ) × In y (x ∷ l) × (t y ≡ true)
    go true q ih e = (x, inl refl, q)
    go false q ih e = let r = ih e in (r.0, inr r.1, r.2)

-- lists that pass the test of equality are equal
pub same_list_lem :
    {A : Type 0} (same : A → A → Bool) → ((x y : A) → same x y ≡ true → x ≡ y) → (l m : List A) → same_list same l m ≡ true → l ≡ m
same_list_lem same f [] [] e = refl
same_list_lem same f [] (y ∷ m) e = absurd (false≢true e)
same_list_lem same f (x ∷ l) [] e = absurd (false≢true e)
same_list_lem same f (x ∷ l) (y ∷ m) e =
    let p = (both_iff (same x y) (same_list same l m)).0 e in
    ap₂ ◌∷◌ (f x y p.0) (same_list_lem same f l m p.1)

-- a choice passes: so does what it picks
pub pick_first : {a : Bool} (b c : Bool) → a ≡ true → pick a b c ≡ true → b ≡ true
pick_first b c h e = rw h at e

pub pick_second : {a : Bool} (b c : Bool) → a ≡ false → pick a b c ≡ true → c ≡ true
pick_second b c h e = rw h at e

-- a choice passes if its first does wherever that is picked
pub pick_passes : (a : Bool) {b : Bool} → (a ≡ true → b ≡ true) → pick a b true ≡ true
pick_passes true f = f refl
pick_passes false f = refl
