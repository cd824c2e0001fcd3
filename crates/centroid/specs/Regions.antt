-- The regions of work, n entries each: where each begins, and the entry of a position in it.
use Rattle.std.specs.Prelude.{ℕ, ◌+◌, ◌*◌}

-- the starts that wait
abbrev pub starts_from : ℕ → ℕ
starts_from n = 0 * n

abbrev pub start_at : ℕ → ℕ → ℕ
start_at n j = starts_from n + j

-- the centroids above them
abbrev pub parents_from : ℕ → ℕ
parents_from n = 1 * n

abbrev pub parent_at : ℕ → ℕ → ℕ
parent_at n j = parents_from n + j

-- their levels
abbrev pub levels_from : ℕ → ℕ
levels_from n = 2 * n

abbrev pub level_at : ℕ → ℕ → ℕ
level_at n j = levels_from n + j

-- the marks of the removed vertices, one bit to a vertex
abbrev pub removed_from : ℕ → ℕ
removed_from n = 3 * n

-- the vertices of one component
abbrev pub queue_from : ℕ → ℕ
queue_from n = 4 * n

abbrev pub queue_at : ℕ → ℕ → ℕ
queue_at n j = queue_from n + j

-- the positions from which they were met
abbrev pub met_from : ℕ → ℕ
met_from n = 5 * n

abbrev pub from_at : ℕ → ℕ → ℕ
from_at n j = met_from n + j

-- their sizes
abbrev pub sizes_from : ℕ → ℕ
sizes_from n = 6 * n

abbrev pub size_at : ℕ → ℕ → ℕ
size_at n j = sizes_from n + j

-- the end of the last region
abbrev pub regions_end : ℕ → ℕ
regions_end n = 7 * n

-- the levels by vertex behind it, where no table is lent for them
abbrev pub level_of_from : ℕ → ℕ
level_of_from n = 7 * n

abbrev pub level_of_at : ℕ → ℕ → ℕ
level_of_at n v = level_of_from n + v

-- the end of the region behind it
abbrev pub work_end : ℕ → ℕ
work_end n = 8 * n
