-- 01, "The program `treepaths`": the bytes that it writes.
use Rattle.std.specs.Prelude.{ℕ, zero, suc, ◌+◌, ◌-◌, ◌/◌, ◌%◌, true, false, List, [], ◌∷◌, ◌++◌, eqb, ltb, length}
use Rattle.tables.specs.Tables.{Six}
use Rattle.answers.specs.Choice.{pick}
use Rattle.answers.specs.Answers.{refusal_code, answer_code, answer_values, Answer}
use Rattle.queries.specs.Queries.{distance, lca, kth_ancestor, jump, subtree_size}
use Rattle.ranges.specs.Calls.{Answered, refused, listed, ranges_of}
use Rattle.ranges.specs.declared.kinds.Direction.{Direction}
use Rattle.ranges.specs.declared.kinds.Direction.TheVariants.{Forward, Reversed}
use Rattle.ranges.specs.declared.kinds.PathRange.{PathRange}
use Rattle.ranges.specs.declared.kinds.Kind.TheVariants.{Vertices, Edges, Both}
use Rattle.treefile.specs.Sizes.{most_digits}
use Rattle.treefile.specs.declared.query.Query.{Query}
use Rattle.treefile.specs.File.{TreeFile, Parsed, bad_file, file}

-- a number in decimal, in at most the given number of digits
unfoldable pub digits_in : ℕ → ℕ → List ℕ
digits_in zero x = []
digits_in (suc k) x = elim (ltb x 10) [ true ↦ (48 + x) ∷ [] | false ↦ digits_in k (x / 10) ++ ((48 + x % 10) ∷ []) ]

abbrev pub decimal : ℕ → List ℕ
decimal x = digits_in most_digits x

abbrev pub space : List ℕ
space = 32 ∷ []

abbrev pub newline : List ℕ
newline = 10 ∷ []

-- "one space between fields and none at a line's end"
abbrev pub fields : List ℕ → List ℕ
fields [] = []
fields (x ∷ []) = decimal x
fields (x ∷ y ∷ l) = decimal x ++ (space ++ fields (y ∷ l))

-- "ranges as start-end with R or F"
abbrev pub letter : Direction → ℕ
letter Forward = 70
letter Reversed = 82

abbrev pub range_text : PathRange → List ℕ
range_text r = decimal r.start ++ (45 ∷ (decimal r.end ++ (letter r.direction ∷ [])))

abbrev pub ranges_text : List PathRange → List ℕ
ranges_text [] = []
ranges_text (r ∷ l) = space ++ (range_text r ++ ranges_text l)

-- what follows a query's place and kind: its code, and the answer; "a refused query's line stops after its code"
abbrev pub number_text : Answer → List ℕ
number_text a = fields (answer_code a ∷ answer_values a)

abbrev pub list_text : Answered → List ℕ
list_text (refused x) = decimal (refusal_code x)
list_text (listed l) = decimal 0 ++ ranges_text l

-- "Kinds: 1 distance(a,b), 2 lca(a,b,c), 3 kth_ancestor(a,b), 4 jump(a,b,c), 5 subtree_size(a,b), 6 vertex ranges, 7 edge ranges, 8 both."
unfoldable pub answer_text : Six → Query → List ℕ
answer_text t q =
    pick (eqb q.kind 1) (number_text (distance t q.a q.b))
    (pick (eqb q.kind 2) (number_text (lca t q.a q.b q.c))
    (pick (eqb q.kind 3) (number_text (kth_ancestor t q.a q.b))
    (pick (eqb q.kind 4) (number_text (jump t q.a q.b q.c))
    (pick (eqb q.kind 5) (number_text (subtree_size t q.a q.b))
    (pick (eqb q.kind 6) (list_text (ranges_of Vertices t q.a q.b))
    (pick (eqb q.kind 7) (list_text (ranges_of Edges t q.a q.b)) (list_text (ranges_of Both t q.a q.b))))))))

-- "for each query its place from 1, kind, code, and the answer"
abbrev pub query_line : Six → ℕ → Query → List ℕ
query_line t place q = decimal place ++ (space ++ (decimal q.kind ++ (space ++ (answer_text t q ++ newline))))

abbrev pub query_lines : Six → ℕ → List Query → List ℕ
query_lines t place [] = []
query_lines t place (q ∷ qs) = query_line t place q ++ query_lines t (place + 1) qs

-- "tree "
abbrev pub tree_word : List ℕ
tree_word = 116 ∷ 114 ∷ 101 ∷ 101 ∷ 32 ∷ []

-- "A refused tree prints `tree` and its code"; "Else the first line is `tree`, code, n, root"
abbrev pub built_text : (code n root : ℕ) → List ℕ
built_text code n root = pick (eqb code 0) (fields (0 ∷ n ∷ root ∷ [])) (decimal code)

abbrev pub tree_line : (code n root : ℕ) → List ℕ
tree_line code n root = tree_word ++ (built_text code n root ++ newline)

-- the report of a file whose tree got this code and, where it is 0, these tables
abbrev pub file_report : ℕ → Six → TreeFile → List ℕ
file_report code t f = tree_line code (length f.tree.offsets - 1) f.tree.root ++ pick (eqb code 0) (query_lines t 1 f.queries) []

-- "BadFile, printed as `file 11` alone"
abbrev pub bad_report : List ℕ
bad_report = 102 ∷ 105 ∷ 108 ∷ 101 ∷ 32 ∷ 49 ∷ 49 ∷ 10 ∷ []

abbrev pub report : Parsed → ℕ → Six → List ℕ
report bad_file code t = bad_report
report (file f) code t = file_report code t f
