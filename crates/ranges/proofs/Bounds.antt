-- The floor of the logarithm of a number of vertices is small.
use Prim.Native.Nat.{ℕ, ◌<◌, ◌≤◌, ◌^◌}
use native.Mathlib.Omega.{arith}
use Rattle.numbering.specs.Log.{log2}
use Rattle.answers.specs.Limits.{max_vertices}
use Rattle.answers.proofs.Bounds.{chains_small, chains_few}

pub log2_bounded : (n : ℕ) → 1 ≤ n → n ≤ max_vertices → log2 n < 2 ^ 31
log2_bounded n p h = omega (arith, chains_few n p h, chains_small)
