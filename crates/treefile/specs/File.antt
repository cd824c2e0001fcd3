-- 01, "The program `treepaths`": what a well-formed file is, and what it means.
use Rattle.std.specs.Prelude.{ℕ, zero, suc, ◌+◌, ◌*◌, ◌/◌, ◌%◌, Bool, true, List, [], ◌∷◌, eqb, leb, length, take, drop}
use Rattle.answers.specs.Choice.{pick, both}
use Rattle.treefile.specs.declared.query.Query.{Query}

-- "more than 1,025 offsets, 2,048 targets or 64 queries" is a BadFile: the program's own limits
unfoldable pub max_offsets : ℕ
max_offsets = 1_025

unfoldable pub max_file_targets : ℕ
max_file_targets = 2_048

unfoldable pub max_queries : ℕ
max_queries = 64

-- "another root count" than 1 is one too: the most numbers of a root section
unfoldable pub max_roots : ℕ
max_roots = 1

-- a tree as a file has it: "offsets; targets; the root"
pub record TreeSections : Type 0 where
  pub offsets : List ℕ
  pub targets : List ℕ
  pub root : ℕ

pub record TreeFile : Type 0 where
  pub tree : TreeSections
  pub queries : List Query

-- the number that bytes say, the low byte first
abbrev pub little_endian : List ℕ → ℕ
little_endian [] = 0
little_endian (b ∷ l) = b + 256 * little_endian l

-- the first so many numbers, each of so many bytes
abbrev pub numbers_in : ℕ → ℕ → List ℕ → List ℕ
numbers_in zero width l = []
numbers_in (suc k) width l = little_endian (take width l) ∷ numbers_in k width (drop width l)

-- all whole numbers of so many bytes
unfoldable pub numbers : ℕ → List ℕ → List ℕ
numbers width bytes = numbers_in (length bytes / width) width bytes

-- "all 16-bit little-endian": the width of a file's numbers, in bytes
abbrev pub narrow : ℕ
narrow = 2

-- "sections in fixed order, each after its count": a section of at most `most` numbers, and what follows it
pub data Section : Type 0 where
  cut : Section
  part : List ℕ → List ℕ → Section

abbrev pub section : ℕ → List ℕ → Section
section most [] = cut
section most (count ∷ ws) = pick (both (leb count most) (leb count (length ws))) (part (take count ws) (drop count ws)) cut

-- a tree's sections and the numbers behind them; or a section is cut short or over its limit, or the root has another count
pub data TreeRead : Type 0 where
  bad_tree : TreeRead
  tree : TreeSections → List ℕ → TreeRead

-- "the root (count 1)": the one place that knows what the root section holds
abbrev pub with_root : List ℕ → List ℕ → Section → TreeRead
with_root os ts cut = bad_tree
with_root os ts (part [] ws) = bad_tree
with_root os ts (part (root ∷ []) ws) = tree (record { offsets = os; targets = ts; root = root }) ws
with_root os ts (part (root ∷ x ∷ l) ws) = bad_tree

abbrev pub with_targets : List ℕ → Section → TreeRead
with_targets os cut = bad_tree
with_targets os (part ts ws) = with_root os ts (section max_roots ws)

abbrev pub with_offsets : Section → TreeRead
with_offsets cut = bad_tree
with_offsets (part os ws) = with_targets os (section max_file_targets ws)

-- the tree whose sections stand first
abbrev pub read_tree : List ℕ → TreeRead
read_tree ws = with_offsets (section max_offsets ws)

-- the kinds that use all three numbers: 2 lca(a,b,c) and 4 jump(a,b,c)
abbrev pub three? : ℕ → Bool
three? kind = pick (eqb kind 2) true (eqb kind 4)

-- kinds 1 to 8; "Unused numbers are 0"
abbrev pub query? : Query → Bool
query? q = both (leb 1 q.kind) (both (leb q.kind 8) (pick (three? q.kind) true (eqb q.c 0)))

pub data Queries : Type 0 where
  bad : Queries
  all : List Query → Queries

abbrev pub before : Query → Queries → Queries
before q bad = bad
before q (all qs) = pick (query? q) (all (q ∷ qs)) bad

-- as many queries as the count says, four numbers each, and nothing behind them
abbrev pub queries_in : ℕ → List ℕ → Queries
queries_in zero [] = all []
queries_in zero (x ∷ ws) = bad
queries_in (suc k) [] = bad
queries_in (suc k) (x ∷ []) = bad
queries_in (suc k) (x ∷ y ∷ []) = bad
queries_in (suc k) (x ∷ y ∷ z ∷ []) = bad
queries_in (suc k) (x ∷ y ∷ z ∷ w ∷ ws) = before (record { kind = x; a = y; b = z; c = w }) (queries_in k ws)

-- the section of the queries: not more than the limit, and nothing behind them
abbrev pub query_section : List ℕ → Queries
query_section [] = bad
query_section (count ∷ ws) = pick (leb count max_queries) (queries_in count ws) bad

-- what the bytes mean, or BadFile
pub data Parsed : Type 0 where
  bad_file : Parsed
  file : TreeFile → Parsed

abbrev pub with_queries : TreeSections → Queries → Parsed
with_queries s bad = bad_file
with_queries s (all qs) = file (record { tree = s; queries = qs })

abbrev pub after_tree : TreeRead → Parsed
after_tree bad_tree = bad_file
after_tree (tree s ws) = with_queries s (query_section ws)

-- a tree, and the queries behind it
unfoldable pub parse_numbers : List ℕ → Parsed
parse_numbers ws = after_tree (read_tree ws)

-- "input ends early or has bytes left": bytes at the end that are no whole number are bytes left
unfoldable pub parse_as : ℕ → List ℕ → Parsed
parse_as width bytes = pick (eqb (length bytes % width) 0) (parse_numbers (numbers width bytes)) bad_file

abbrev pub parse_file : List ℕ → Parsed
parse_file bytes = parse_as narrow bytes
