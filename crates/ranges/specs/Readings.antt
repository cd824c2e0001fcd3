-- What a list of ranges reads: the numbers of each range in its direction, one range after the other (tender, condition 3).
use Rattle.std.specs.Prelude.{ℕ, zero, suc, ◌-◌, ◌*◌, List, [], ◌∷◌, ◌++◌, reverse, ltb}
use Rattle.answers.specs.Choice.{pick}
use Rattle.ranges.specs.declared.kinds.Direction.{Direction}
use Rattle.ranges.specs.declared.kinds.Direction.TheVariants.{Forward, Reversed}
use Rattle.ranges.specs.declared.kinds.PathRange.{PathRange}

-- k numbers from l on
abbrev pub rising : ℕ → ℕ → List ℕ
rising l zero = []
rising l (suc k) = l ∷ rising (suc l) k

-- the numbers of a range, Forward from the first to the last, Reversed the other way
abbrev pub read_in : Direction → List ℕ → List ℕ
read_in Forward l = l
read_in Reversed l = reverse l

abbrev pub read_range : PathRange → List ℕ
read_range r = read_in r.direction (rising r.start (r.end - r.start))

abbrev pub reading : List PathRange → List ℕ
reading [] = []
reading (r ∷ l) = read_range r ++ reading l

-- "An edge is named by its child": of two neighbours the deeper one
abbrev pub child_of : (ℕ → ℕ) → ℕ → ℕ → ℕ
child_of dep x y = pick (ltb (dep y) (dep x)) x y

-- the numbers of the edges of a path
abbrev pub edge_numbers : (dep id : ℕ → ℕ) → ℕ → List ℕ → List ℕ
edge_numbers dep id x [] = []
edge_numbers dep id x (y ∷ l) = id (child_of dep x y) ∷ edge_numbers dep id y l

-- vertices and edges of a path in turn, in the doubled numbers: "vertex x is 2·id, its parent edge 2·id−1"
abbrev pub both_numbers : (dep id : ℕ → ℕ) → ℕ → List ℕ → List ℕ
both_numbers dep id x [] = 2 * id x ∷ []
both_numbers dep id x (y ∷ l) = 2 * id x ∷ (2 * id (child_of dep x y) - 1) ∷ both_numbers dep id y l
