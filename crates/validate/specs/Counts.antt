-- What `tree_counts` asks and decides.
use Rattle.std.specs.Prelude.{ℕ, ◌-◌, ◌*◌, ◌≤◌, ◌<◌, ◌^◌, ◌≡◌}

-- there is a vertex, and twice the number of edges can be worked out
abbrev pub CountsAsk : ℕ → Type 0
CountsAsk n = (1 ≤ n) × (n < 2 ^ 31)

-- all n vertices were met, and there are as many entries as a tree has
abbrev pub TreeCounts : ℕ → ℕ → ℕ → Type 0
TreeCounts n met entries = (met ≡ n) × (entries ≡ 2 * (n - 1))
