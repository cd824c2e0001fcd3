-- 01, "Examples with their neighbours": the kinds of cases that P marks, and what each says, in the contracts' own definitions.
use Rattle.std.specs.Prelude.{ℕ, ◌≤◌, ◌≡◌, List, [], ◌∷◌, length}
use Rattle.answers.specs.Codes.{done}
use Rattle.graph.specs.Judgement.{First}
use Rattle.graph.specs.Lent.{vertices, list_of}
use Rattle.graph.specs.Validation.{room_of, validation, Validates}
use Rattle.tables.specs.Tables.{Six, TablesOf}
use Rattle.queries.specs.Queries.{subtree_size, lca, jump}
use Rattle.ranges.specs.Calls.{listed, ranges_of}
use Rattle.ranges.specs.declared.kinds.Kind.{Kind}
use Rattle.ranges.specs.declared.kinds.PathRange.{PathRange}
use Rattle.centroid.specs.Decomposition.{DecompositionOf}
use Rattle.answers.specs.Answers.{Answer}

-- a lent graph
pub record Graph : Type 0 where
  pub offsets : List ℕ
  pub targets : List ℕ

abbrev pub vertices_of : Graph → ℕ
vertices_of g = vertices g.offsets

abbrev pub lists_of : Graph → ℕ → List ℕ
lists_of g = list_of g.offsets g.targets

-- a lent graph, a root, and the six tables that are to be its own
pub record Example : Type 0 where
  pub graph : Graph
  pub root : ℕ
  pub tables : Six

-- a question to six tables
pub data Query : Type 0 where
  size_of : (r v : ℕ) → Query
  lca_of : (r u v : ℕ) → Query
  jump_of : (u v k : ℕ) → Query

abbrev pub answer_to : Query → Six → Answer
answer_to (size_of r v) t = subtree_size t r v
answer_to (lca_of r u v) t = lca t r u v
answer_to (jump_of u v k) t = jump t u v k

-- refused: the graph from this root gives this code; numbered: it has these tables; answered, ranged: its tables give this answer, these ranges;
-- decomposed: the tree has this decomposition, `up` the parents of its centroids; its own parents and depths from 0 come first, for the test only
pub data Case : Type 0 where
  refused : Graph → (root code : ℕ) → Case
  numbered : Example → Case
  answered : Example → Query → Answer → Case
  ranged : Example → Kind → (u v : ℕ) → List PathRange → Case
  decomposed : Graph → (parent depth up level : List ℕ) → Case

-- for work long enough the code is that of the first test not passed
abbrev pub Gives : Graph → (root code : ℕ) → Type 0
Gives g root code =
    (room : ℕ) → room_of g.offsets g.targets ≤ room → First (validation g.offsets g.targets root room) code

-- this code, and so every result that the contract of `validate_tree` allows has it
pub record HasCode (g : Graph) (root code : ℕ) : Type 0 where
  pub gives : Gives g root code
  pub only : (w w' : List ℕ) (c : ℕ) → room_of g.offsets g.targets ≤ length w → Validates g.offsets g.targets root w w' c → c ≡ code

-- t are tables of the example's graph from its root
abbrev pub TablesFor : Example → Six → Type 0
TablesFor x t = TablesOf (vertices_of x.graph) (lists_of x.graph) x.root t

-- the example's graph is accepted, its tables are those of the graph, and no others are
pub record HasTables (x : Example) : Type 0 where
  pub accepted : Gives x.graph x.root done
  pub own : TablesFor x x.tables
  pub only : (t : Six) → TablesFor x t → t ≡ x.tables

-- the graph has tables, and any that it has give this answer
pub record HasAnswer (x : Example) (q : Query) (a : Answer) : Type 0 where
  pub has_tables : HasTables x
  pub answer : (t : Six) → TablesFor x t → answer_to q t ≡ a

-- the graph has tables, and any that it has give these ranges
pub record HasRanges (x : Example) (kind : Kind) (u v : ℕ) (l : List PathRange) : Type 0 where
  pub has_tables : HasTables x
  pub ranges : (t : Six) → TablesFor x t → ranges_of kind t u v ≡ listed l

-- the graph is accepted, has this decomposition, and has no other
pub record HasDecomposition (g : Graph) (up level : List ℕ) : Type 0 where
  pub accepted : Gives g 0 done
  pub decomposition : DecompositionOf (vertices_of g) (lists_of g) up level
  pub only : (up' level' : List ℕ) → DecompositionOf (vertices_of g) (lists_of g) up' level' → (up' ≡ up) × (level' ≡ level)

-- what a case says
abbrev pub Means : Case → Type 0
Means (refused g root code) = HasCode g root code
Means (numbered x) = HasTables x
Means (answered x q a) = HasAnswer x q a
Means (ranged x kind u v l) = HasRanges x kind u v l
Means (decomposed g parent depth up level) = HasDecomposition g up level

-- each entry of a list has the property
abbrev pub Each : {A : Type 0} → (A → Type 0) → List A → Type 0
Each P [] = Unit {0}
Each P (x ∷ l) = P x × Each P l
