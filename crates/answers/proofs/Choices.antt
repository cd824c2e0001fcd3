-- Laws of choosing by tests: what a choice is once a test is known, and what a choice tells of its tests.
use Prim.Native.Nat.{ℕ, zero, suc, ◌+◌, ◌≤◌, ◌<◌}
use native.Mathlib.Numerals.{add-one}
use native.Mathlib.Omega.{arith}
use mathlib.Core.Path.{◌≡◌, refl, sym, ap, ap₂, ◌∙◌}
use mathlib.Core.Logic.{inl, inr}
use mathlib.Core.Bool.{Bool, true, false, true≢false}
use mathlib.Core.List.{List, [], ◌∷◌}
use lib.ListN.{length, drop, get_or, drop_of_length-le}
use lib.Seq.{drop-cons}
use Rattle.std.specs.Prelude.{IsTrue}
use Rattle.paths.specs.Walk.{In}
use Rattle.answers.specs.Choice.{pick, both, all?}

pub pick_true : {A : Type 0} {b : Bool} (x y : A) → b ≡ true → pick b x y ≡ x
pick_true {A} {b} x y e = rw e

pub pick_false : {A : Type 0} {b : Bool} (x y : A) → b ≡ false → pick b x y ≡ y
pick_false {A} {b} x y e = rw e

-- a choice between one thing and itself
pub pick_same : {A : Type 0} (b : Bool) (x : A) → pick b x x ≡ x
pick_same true x = refl
pick_same false x = refl

-- two choices with one way out
pub pick-both : {A : Type 0} (a b : Bool) (x y : A) → pick a (pick b x y) y ≡ pick (both a b) x y
pick-both true b x y = refl
pick-both false b x y = refl

-- two tests that pass both pass
pub both_true : (a b : Bool) → both a b ≡ true → (a ≡ true) × (b ≡ true)
both_true true b e = (refl, e)
both_true false b e = absurd (true≢false (sym e))

-- and tests that pass do so together
pub both_passed : (a b : Bool) → a ≡ true → b ≡ true → both a b ≡ true
both_passed a b e f = rw (e, f)

-- a test that is not passed is failed
pub not_passed : (b : Bool) → (b ≡ true → ⊥) → b ≡ false
not_passed true f = absurd (f refl)
not_passed false f = refl

-- two tests of which each passes where the other does
pub same_test : (a b : Bool) → (a ≡ true → b ≡ true) → (b ≡ true → a ≡ true) → a ≡ b
same_test true b f g = sym (f refl)
same_test false b f g = sym (not_passed b (λ e. true≢false (sym (g e))))

-- six tests and a seventh, grouped
pub both_last : (a b c d e f g : Bool) → both a (both b (both c (both d (both e (both f g))))) ≡ both (both a (both b (both c (both d (both e f))))) g
both_last false b c d e f g = refl
both_last true false c d e f g = refl
both_last true true false d e f g = refl
both_last true true true false e f g = refl
both_last true true true true false f g = refl
both_last true true true true true f g = refl

-- A list of numbers, tested one by one: the number at i decides, or the rest does.

all_cons : (t : ℕ → Bool) (l : List ℕ) (i : ℕ) → i < length l → all? t (drop i l) ≡ both (t (get_or l i 0)) (all? t (drop (i + 1) l))
all_cons t l i h = rw (add-one i, drop-cons l i 0 h)

pub all_next : (t : ℕ → Bool) (l : List ℕ) (i : ℕ) → i < length l → t (get_or l i 0) ≡ true → all? t (drop (i + 1) l) ≡ all? t (drop i l)
all_next t l i h e = sym (all_cons t l i h ∙ ap (λ (x : Bool). both x (all? t (drop (i + 1) l))) e)

pub all_stop : (t : ℕ → Bool) (l : List ℕ) (i : ℕ) → i < length l → t (get_or l i 0) ≡ false → false ≡ all? t (drop i l)
all_stop t l i h e = sym (all_cons t l i h ∙ ap (λ (x : Bool). both x (all? t (drop (i + 1) l))) e)

pub all_end : (t : ℕ → Bool) (l : List ℕ) (i : ℕ) → length l ≤ i → true ≡ all? t (drop i l)
all_end t l i h = rw (drop_of_length-le l h)

-- Each entry of a list passes the test, or not.

pub all_in : (t : ℕ → Bool) (y : ℕ) (l : List ℕ) → all? t l ≡ true → In y l → t y ≡ true
all_in t y [] e h = absurd h
all_in t y (x ∷ l) e (inl h) = ap t h ∙ (both_true (t x) (all? t l) e).0
all_in t y (x ∷ l) e (inr h) = all_in t y l (both_true (t x) (all? t l) e).1 h

pub in_all : (t : ℕ → Bool) (l : List ℕ) → ((y : ℕ) → In y l → t y ≡ true) → all? t l ≡ true
in_all t [] f = refl
in_all t (x ∷ l) f = both_passed (t x) (all? t l) (f x (inl refl)) (in_all t l (λ y h. f y (inr h)))

-- a first entry that passes leaves the others
pub all_others : (t : ℕ → Bool) (x : ℕ) (l : List ℕ) → t x ≡ true → all? t (x ∷ l) ≡ all? t l
all_others t x l e = ap (λ (b : Bool). both b (all? t l)) e

-- tests that agree on the entries
pub all_same : (s t : ℕ → Bool) (l : List ℕ) → ((y : ℕ) → In y l → s y ≡ t y) → all? s l ≡ all? t l
all_same s t [] f = refl
all_same s t (x ∷ l) f = ap₂ both (f x (inl refl)) (all_same s t l (λ y h. f y (inr h)))

-- Each index of a list has an entry that passes the test, or not: what an iterator's `all` answers.

all_at : (t : ℕ → Bool) (l : List ℕ) → all? t l ≡ true → (k : ℕ) → k < length l → t (get_or l k 0) ≡ true
all_at t [] e k h = absurd (omega arith)
all_at t (x ∷ l) e zero h = (both_true (t x) (all? t l) e).0
all_at t (x ∷ l) e (suc k) h = all_at t l (both_true (t x) (all? t l) e).1 k (omega arith)

at_all : (t : ℕ → Bool) (l : List ℕ) → ((k : ℕ) → k < length l → t (get_or l k 0) ≡ true) → all? t l ≡ true
at_all t [] f = refl
at_all t (x ∷ l) f = both_passed (t x) (all? t l) (f zero (omega arith)) (at_all t l (λ k h. f (suc k) (omega arith)))

pub each_all : (t : ℕ → Bool) (l : List ℕ) (b : Bool)
    → (IsTrue b → (k : ℕ) → k < length l → t (get_or l k 0) ≡ true)
    → (((k : ℕ) → k < length l → t (get_or l k 0) ≡ true) → IsTrue b)
    → b ≡ all? t l
each_all t l true f g = sym (at_all t l (f refl))
each_all t l false f g = sym (not_passed (all? t l) (λ e. true≢false (sym (g (all_at t l e)))))
