-- What the inner functions of `report` ask and answer.
use Rattle.std.specs.Prelude.{ℕ, ◌+◌, ◌≤◌, length}
use Rattle.graph.specs.Lent.{vertices}
use Rattle.tables.specs.Tables.{Six, Long}
use Rattle.treefile.specs.declared.page.Page.{Page}
use Rattle.treefile.specs.File.{TreeFile, max_offsets, max_file_targets, max_queries}
use Rattle.treefile.specs.Report.{file_report}
use Rattle.treefile.specs.Writing.{Prints}
use Rattle.treereport.specs.declared.report.File.{File}
use Rattle.treereport.specs.Reports.{report_room, Judged}

-- a file by its parts
abbrev pub file_of : File → TreeFile
file_of f = record { tree = record { offsets = f.graph.offsets.now; targets = f.graph.targets.now; root = f.root }; queries = f.queries.now }

-- a well-formed file, and room for its report
pub record FileAsks (f : TreeFile) (page : Page) : Type 0 where
  pub few_offsets : length f.tree.offsets ≤ max_offsets
  pub few_targets : length f.tree.targets ≤ max_file_targets
  pub few_queries : length f.queries ≤ max_queries
  pub room : page.at + report_room ≤ length page.out.now

-- and tables of n entries
pub record TreeAsks (f : TreeFile) (t : Six) (page : Page) : Type 0 where
  pub long : Long (vertices f.tree.offsets) t
  pub file : FileAsks f page

-- the report was put on the page
pub record Filed (f : TreeFile) (page page' : Page) : Type 0 where
  pub code : ℕ
  pub tables : Six
  pub judged : Judged f.tree code tables
  pub text : Prints (file_report code tables f) page page'
  pub fits : page'.at ≤ length page.out.now
