-- Marks, one bit to a vertex, in 32-bit words: the mark of v is bit v % 32 of the word v / 32 (01, "Expected forms by place").
use Rattle.std.specs.Prelude.{ℕ, ◌+◌, ◌/◌, ◌%◌, ◌^◌, ◌≡◌, ◌≢◌, List, length}
use Rattle.sums.specs.Sum.{at}

-- the mark of v in the words of w from index base on: 1 where v is marked, else 0
abbrev pub mark_of : List ℕ → ℕ → ℕ → ℕ
mark_of w base v = at w (base + v / 32) / 2 ^ (v % 32) % 2

-- w' is w with v marked, and nothing else changed
pub record Marks (base v : ℕ) (w w' : List ℕ) : Type 0 where
  pub same_length : length w' ≡ length w
  pub marked : mark_of w' base v ≡ 1
  pub others : (x : ℕ) → x ≢ v → mark_of w' base x ≡ mark_of w base x
  pub elsewhere : (i : ℕ) → i ≢ base + v / 32 → at w' i ≡ at w i
