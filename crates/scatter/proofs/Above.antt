-- Laws of the parent of a position.
use Prim.Native.Nat.{ℕ, ◌<◌}
use native.Mathlib.Omega.{arith}
use mathlib.Core.Path.{◌≡◌}
use mathlib.Core.List.{List}
use borrow.Author.Tests.{eq-eqb, ne_eqb}
use Rattle.sums.specs.Sum.{at}
use Rattle.answers.specs.Limits.{no_parent}
use Rattle.passes.specs.Passes.{region}
use Rattle.scatter.specs.Scatter.{parent_at}

pub parent_first : (n : ℕ) (w : List ℕ) (j : ℕ) → j ≡ 0 → parent_at n w j ≡ no_parent
parent_first n w j e = rw (eq-eqb j 0 e, parent_at)

pub parent_later : (n : ℕ) (w : List ℕ) (j : ℕ) → 0 < j → parent_at n w j ≡ at w (region 1 n w j)
parent_later n w j h = rw (ne_eqb j 0 (omega arith), parent_at)
