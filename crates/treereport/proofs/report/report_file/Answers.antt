use mathlib.Core.Path.{refl}
use Rattle.treereport.proofs.Building.{tree_asks}
use Rattle.treereport.proofs.report.report_file.Goals as goal

pub report_tree-requires : goal.report_tree-requires
report_tree-requires c = tree_asks _ refl c.vertices-n.ensures c.requires
