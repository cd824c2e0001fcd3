-- 01, "The program `treepaths`": what `report` writes for the bytes of a file.
use Rattle.std.specs.Prelude.{ℕ, ◌≤◌, ◌<◌, ◌≡◌, List, ◌∷◌, length}
use Rattle.answers.specs.Codes.{done, bad_size}
use Rattle.graph.specs.Judgement.{Test, test, First}
use Rattle.graph.specs.Lent.{vertices, list_of}
use Rattle.graph.specs.Validation.{Sized, graph_tests}
use Rattle.tables.specs.Tables.{Six, TablesOf}
use Rattle.treefile.specs.File.{TreeSections, TreeFile, Parsed, file, parse_file}
use Rattle.treefile.specs.Report.{report}
use Rattle.paths.specs.Lists.{front}

-- bytes that hold every report
unfoldable pub report_room : ℕ
report_room = 65_536

-- "A build .. tests 1 to 8 in that order": the program lends tables of n entries and enough work, so 2 never comes
abbrev pub tree_tests : TreeSections → List Test
tree_tests s = test bad_size (Sized s.offsets s.targets) ∷ graph_tests s.offsets s.targets s.root

-- the build of a file's tree answers this code and, where it is 0, these tables
pub record Judged (s : TreeSections) (code : ℕ) (t : Six) : Type 0 where
  pub first : First (tree_tests s) code
  pub built : code ≡ done → TablesOf (vertices s.offsets) (list_of s.offsets s.targets) s.root t

-- the report of a file stands at the front of out', the rest of out is unchanged, and r is the report's length
pub record Written (p : Parsed) (out out' : List ℕ) (r : ℕ) : Type 0 where
  pub code : ℕ
  pub tables : Six
  pub judged : (f : TreeFile) → p ≡ file f → Judged f.tree code tables
  pub bytes : out' ≡ front (report p code tables) out
  pub count : r ≡ length (report p code tables)
  pub fits : r ≤ length out

-- `report` of the bytes leaves out' and returns r; too short an out is left alone
pub record Reports (bytes out out' : List ℕ) (r : ℕ) : Type 0 where
  pub whole : report_room ≤ length out → Written (parse_file bytes) out out' r
  pub short : length out < report_room → (out' ≡ out) × (r ≡ 0)
