-- What proofs need of the limits, so that none of them opens one: they are small enough for 32-bit numbers and for sums of a few of them in 64 bits, no
-- vertex is the number that says "no parent", and the most chains are what the name says.
use Prim.Native.Nat.{ℕ, ◌+◌, ◌*◌, ◌≤◌, ◌<◌, ◌^◌}
use native.Mathlib.Omega.{arith}
use native.Mathlib.Decide.{dec_lt}
use lib.Pow.{pow_mono}
use Rattle.numbering.specs.Log.{log2}
use Rattle.numbering.proofs.Logs.{log2_low}
use Rattle.answers.specs.Limits.{max_vertices, max_targets, max_store, no_parent, most_chains, most_ranges}

pub vertices_small : max_vertices < 2 ^ 31
unfolding max_vertices
vertices_small = omega arith

pub targets_small : max_targets < 2 ^ 31
unfolding max_targets
targets_small = omega arith

pub chains_small : most_chains < 32
unfolding most_chains
chains_small = omega arith

-- the sum of n numbers, each at most one more than the most chains, is a 32-bit number
pub totals_small : max_vertices * (most_chains + 1) < 2 ^ 32
unfolding max_vertices most_chains
totals_small = omega arith

-- no vertex is the number that says "no parent"
pub vertices_parents : max_vertices ≤ no_parent
unfolding max_vertices no_parent
vertices_parents = omega arith

-- a store has room for the rules of all vertices
pub vertices_stored : max_vertices ≤ max_store
unfolding max_vertices max_store
vertices_stored = omega arith

-- the limit is below the next power
vertices_power : max_vertices < 2 ^ (most_chains + 1)
unfolding max_vertices most_chains
vertices_power = omega arith

-- within the limit no logarithm exceeds the most chains
pub chains_few : (n : ℕ) → 1 ≤ n → n ≤ max_vertices → log2 n ≤ most_chains
chains_few n some small = elim (dec_lt most_chains (log2 n)) [
  | yes h ↦
      let l = log2_low n some in
      let p : 2 ^ (most_chains + 1) ≤ 2 ^ log2 n = pow_mono {i = most_chains + 1} {j = log2 n} (omega arith) in
      let b = vertices_power in
      absurd (omega arith)
  | no h ↦ omega arith
]

-- and no path has more than the most ranges
pub ranges_few : (n : ℕ) → 1 ≤ n → n ≤ max_vertices → 2 * log2 n + 1 ≤ most_ranges
ranges_few n some small = let c = chains_few n some small in omega arith
