-- 01, "What is delivered": the limits and the work room. Each is named here, and nowhere else in specs/ written as a number.
use Rattle.std.specs.Prelude.{ℕ, ◌+◌, ◌*◌}

-- "n from 1 to 32,768"
unfoldable pub max_vertices : ℕ
max_vertices = 32_768

-- "E at most 65,535"
unfoldable pub max_targets : ℕ
max_targets = 65_535

-- "two lent stores of 1 to 32,768 entries" (01, "Rule parts (added)")
unfoldable pub max_store : ℕ
max_store = 32_768

-- "Work room: at least 8n+E entries"
abbrev pub work_room : ℕ → ℕ → ℕ
work_room n e = 8 * n + e

-- "'No parent' is 4,294,967,295"
unfoldable pub no_parent : ℕ
no_parent = 4_294_967_295

-- the most chains that one side of a climb leaves among that many vertices: floor(log2 n) at the limit (`chains_few` in proofs/Bounds.antt)
unfoldable pub most_chains : ℕ
most_chains = 15

-- the most ranges of a path on any tables: the chains of both sides, and the last one
abbrev pub most_ranges : ℕ
most_ranges = 2 * most_chains + 1
