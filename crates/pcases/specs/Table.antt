-- 01, "Examples with their neighbours": every line that is marked P, quoted, with its cases.
use Rattle.std.specs.Prelude.{ℕ, List, [], ◌∷◌, Ok, Err}
use Rattle.answers.specs.Limits.{no_parent}
use Rattle.answers.specs.Codes.{not_symmetric}
use Rattle.ranges.specs.Ranges.{piece, range}
use Rattle.ranges.specs.declared.kinds.Direction.{Direction}
use Rattle.ranges.specs.declared.kinds.Direction.TheVariants.{Forward, Reversed}
use Rattle.ranges.specs.declared.kinds.PathRange.{PathRange}
use Rattle.ranges.specs.declared.kinds.Kind.TheVariants.{Vertices, Edges, Both}
use Rattle.pcases.specs.Cases.{Graph, Example, size_of, lca_of, jump_of, Case, refused, numbered, answered, ranged, decomposed}
use Rattle.answers.specs.declared.answer.Refusal.TheVariants.{TooFar}

-- a range as 01 writes it, by its start, its end and R or F
abbrev pub between : ℕ → ℕ → Direction → PathRange
between l r d = range l r (piece l r d)

-- "Tree T has lists 0:1,2; 1:0,3; 2:0; 3:1, root 0"
unfoldable pub T : Example
T = record {
  graph = record { offsets = 0 ∷ 2 ∷ 4 ∷ 5 ∷ 6 ∷ []; targets = 1 ∷ 2 ∷ 0 ∷ 3 ∷ 0 ∷ 1 ∷ [] };
  root = 0;
  tables = record {
    parent = no_parent ∷ 0 ∷ 0 ∷ 1 ∷ [];
    depth = 0 ∷ 1 ∷ 1 ∷ 2 ∷ [];
    head = 0 ∷ 0 ∷ 2 ∷ 0 ∷ [];
    id = 0 ∷ 1 ∷ 3 ∷ 2 ∷ [];
    order = 0 ∷ 1 ∷ 3 ∷ 2 ∷ [];
    size = 4 ∷ 2 ∷ 1 ∷ 1 ∷ [];
  };
}

-- "Star S has lists 0:1,2,3; 1:0; 2:0; 3:0"
unfoldable pub S : Example
S = record {
  graph = record { offsets = 0 ∷ 3 ∷ 4 ∷ 5 ∷ 6 ∷ []; targets = 1 ∷ 2 ∷ 3 ∷ 0 ∷ 0 ∷ 0 ∷ [] };
  root = 0;
  tables = record {
    parent = no_parent ∷ 0 ∷ 0 ∷ 0 ∷ [];
    depth = 0 ∷ 1 ∷ 1 ∷ 1 ∷ [];
    head = 0 ∷ 0 ∷ 2 ∷ 3 ∷ [];
    id = 0 ∷ 1 ∷ 3 ∷ 2 ∷ [];
    order = 0 ∷ 1 ∷ 3 ∷ 2 ∷ [];
    size = 4 ∷ 1 ∷ 1 ∷ 1 ∷ [];
  };
}

-- "n=1, empty list"
unfoldable pub one : Example
one = record {
  graph = record { offsets = 0 ∷ 0 ∷ []; targets = [] };
  root = 0;
  tables = record { parent = no_parent ∷ []; depth = 0 ∷ []; head = 0 ∷ []; id = 0 ∷ []; order = 0 ∷ []; size = 1 ∷ [] };
}

-- "Path 0-1-2-3"
unfoldable pub path_of_four : Graph
path_of_four = record { offsets = 0 ∷ 1 ∷ 3 ∷ 5 ∷ 6 ∷ []; targets = 1 ∷ 0 ∷ 2 ∷ 1 ∷ 3 ∷ 2 ∷ [] }

-- "Lists 0:1,2; 1:2; 2:1"
unfoldable pub one_way : Graph
one_way = record { offsets = 0 ∷ 2 ∷ 3 ∷ 4 ∷ []; targets = 1 ∷ 2 ∷ 2 ∷ 1 ∷ [] }

unfoldable pub table : List Case
table =
    -- "P T: ids of 0..3 are 0,1,3,2; heads 0,0,2,0."
    numbered T
    -- "P T: subtree_size(3,1)=3, subtree_size(0,1)=2."
    ∷ answered T (size_of 3 1) (Ok 3)
    ∷ answered T (size_of 0 1) (Ok 2)
    -- "P T: lca(3,0,2)=0, lca(0,1,3)=1."
    ∷ answered T (lca_of 3 0 2) (Ok 0)
    ∷ answered T (lca_of 0 1 3) (Ok 1)
    -- "P T: vertex ranges 3 to 2: (0,3,R),(3,4,F); 2 to 3: (3,4,R),(0,3,F)."
    ∷ ranged T Vertices 3 2 (between 0 3 Reversed ∷ between 3 4 Forward ∷ [])
    ∷ ranged T Vertices 2 3 (between 3 4 Reversed ∷ between 0 3 Forward ∷ [])
    -- "P T: edge ranges 3 to 2: (1,3,R),(3,4,F); 2 to 2: none."
    ∷ ranged T Edges 3 2 (between 1 3 Reversed ∷ between 3 4 Forward ∷ [])
    ∷ ranged T Edges 2 2 []
    -- "P T: both, 3 to 2: (0,5,R),(5,7,F); 2 to 2: (6,7,F)."
    ∷ ranged T Both 3 2 (between 0 5 Reversed ∷ between 5 7 Forward ∷ [])
    ∷ ranged T Both 2 2 (between 6 7 Forward ∷ [])
    -- "P T: jump(3,2,3)=2; jump(3,2,4) TooFar."
    ∷ answered T (jump_of 3 2 3) (Ok 2)
    ∷ answered T (jump_of 3 2 4) (Err TooFar)
    -- "P S: ids of 0..3 are 0,1,3,2; vertex ranges 2 to 3: (3,4,R),(0,1,F),(2,3,F)."
    ∷ numbered S
    ∷ ranged S Vertices 2 3 (between 3 4 Reversed ∷ between 0 1 Forward ∷ between 2 3 Forward ∷ [])
    -- "P Path 0-1-2-3: centroid levels 1,0,1,2; parents 1, none, 1, 2."
    ∷ decomposed path_of_four (no_parent ∷ 0 ∷ 1 ∷ 2 ∷ []) (0 ∷ 1 ∷ 2 ∷ 3 ∷ []) (1 ∷ no_parent ∷ 1 ∷ 2 ∷ []) (1 ∷ 0 ∷ 1 ∷ 2 ∷ [])
    -- "P n=1, empty list: id 0, ranges (0,1,F)."
    ∷ numbered one
    ∷ ranged one Vertices 0 0 (between 0 1 Forward ∷ [])
    ∷ ranged one Both 0 0 (between 0 1 Forward ∷ [])
    -- "P Lists 0:1,2; 1:2; 2:1 give 6, though the Rust accepts them."
    ∷ refused one_way 0 not_symmetric
    ∷ []
