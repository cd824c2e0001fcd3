-- Entries, finite sums and counts: the few words that the other crates' definitions are made of.
use Rattle.std.specs.Prelude.{ℕ, zero, suc, ◌+◌, Bool, true, false, List, [], ◌∷◌, eqb, get_or}

-- the entry of a list at an index, 0 past its end
abbrev pub at : List ℕ → ℕ → ℕ
at l i = get_or l i 0

-- a test as a number
abbrev pub tally : Bool → ℕ
tally true = 1
tally false = 0

-- f 0 + f 1 + .. up to f (n - 1)
abbrev pub sum : ℕ → (ℕ → ℕ) → ℕ
sum zero f = 0
sum (suc n) f = sum n f + f n

-- how many of the numbers below n pass the test
abbrev pub how_many : ℕ → (ℕ → Bool) → ℕ
how_many n t = sum n (λ i. tally (t i))

-- how often v stands in a list
abbrev pub count : ℕ → List ℕ → ℕ
count v [] = 0
count v (x ∷ l) = tally (eqb x v) + count v l
