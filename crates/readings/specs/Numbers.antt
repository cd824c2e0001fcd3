-- What each kind of ranges should read of a path, how two such readings join, and how far ranges and their parts of a store go.
use Rattle.std.specs.Prelude.{ℕ, ◌-◌, ◌*◌, ◌≤◌, ◌<◌, List, [], ◌∷◌, ◌++◌, map, drop}
use Rattle.sums.specs.Sum.{at}
use Rattle.tables.specs.Tables.{Six}
use Rattle.pathlaws.specs.Given.{path_in}
use Rattle.ranges.specs.Readings.{edge_numbers, both_numbers}
use Rattle.ranges.specs.Parts.{rule_part}
use Rattle.ranges.specs.declared.kinds.PathRange.{PathRange}
use Rattle.ranges.specs.declared.kinds.Kind.{Kind}
use Rattle.ranges.specs.declared.kinds.Kind.TheVariants.{Vertices, Edges, Both}

-- the numbers of a path that begins at x and goes on through P
abbrev pub numbers_of : Kind → (dep id : ℕ → ℕ) → ℕ → List ℕ → List ℕ
numbers_of Vertices dep id x P = map id (x ∷ P)
numbers_of Edges dep id x P = edge_numbers dep id x P
numbers_of Both dep id x P = both_numbers dep id x P

-- the numbers of the path from u to v
abbrev pub numbers_in : Kind → Six → ℕ → ℕ → List ℕ
numbers_in kind t u v = numbers_of kind (at t.depth) (at t.id) u (path_in t u v)

-- what a reading adds behind one that ends where it begins: "without its first number", where that number is a vertex
abbrev pub rest : Kind → List ℕ → List ℕ
rest Vertices l = drop 1 l
rest Edges l = l
rest Both l = drop 1 l

-- where the ranges of each kind end at the latest
abbrev pub last_end : Kind → ℕ → ℕ
last_end Vertices n = n
last_end Edges n = n
last_end Both n = 2 * n - 1

-- every range has a number, and none from m on
abbrev pub Within : ℕ → List PathRange → Type 0
Within m [] = Unit {0}
Within m (r ∷ l) = (r.start < r.end) × (r.end ≤ m) × Within m l

-- the parts of two stores that a list of ranges picks, one behind the other
abbrev pub parts_of : (first second : List ℕ) → List PathRange → List ℕ
parts_of first second [] = []
parts_of first second (r ∷ l) = rule_part first second r.start r.end r.direction ++ parts_of first second l
