-- Work: which part of it a function may write, and what a store changes.
use Rattle.std.specs.Prelude.{ℕ, ◌≤◌, ◌<◌, ◌≡◌, ◌≢◌, List, length}
use Rattle.sums.specs.Sum.{at}

-- w' is as long as w, and differs from it at most from index a up to index e
pub record Only (a e : ℕ) (w w' : List ℕ) : Type 0 where
  pub same_length : length w' ≡ length w
  pub before : (i : ℕ) → i < a → at w' i ≡ at w i
  pub after : (i : ℕ) → e ≤ i → at w' i ≡ at w i

-- the entries from index a up to index e are zero, the others unchanged
pub record Zeroed (a e : ℕ) (w w' : List ℕ) : Type 0 where
  pub only : Only a e w w'
  pub zero : (i : ℕ) → a ≤ i → i < e → at w' i ≡ 0

-- a store: f' has x at j, and is f at the other numbers below n
pub record Put (n j x : ℕ) (f f' : ℕ → ℕ) : Type 0 where
  pub here : f' j ≡ x
  pub there : (k : ℕ) → k < n → k ≢ j → f' k ≡ f k
