use native.Mathlib.Omega.{arith}
use Rattle.treereport.proofs.Telling.{refused_code, answered_code, line_room, told_refused, lines_ask, told_built}
use Rattle.treereport.proofs.report.report_tree.Goals as goal

pub put_tree_line-requires : goal.put_tree_line-requires
put_tree_line-requires c = line_room c.requires.file _ _ _

pub returns-then-is_err : goal.returns-then-is_err
returns-then-is_err c =
    told_refused c.requires (omega arith) c.try_hld-built.ensures.builds (rw (c.code_of.ensures, c.vertices.ensures) at c.put_tree_line.ensures)
    (refused_code c.try_hld-built.result c.if-is_err.ensures.value)

pub put_queries-requires : goal.put_queries-requires
put_queries-requires c =
    lines_ask c.requires (omega arith) c.try_hld-built.ensures.builds (rw (c.code_of.ensures, c.vertices.ensures) at c.put_tree_line.ensures)
    (answered_code c.try_hld-built.result c.if-is_err.ensures.value)

pub returns : goal.returns
returns c =
    told_built c.requires (omega arith) c.try_hld-built.ensures.builds (rw (c.code_of.ensures, c.vertices.ensures) at c.put_tree_line.ensures)
    (answered_code c.try_hld-built.result c.if-is_err.ensures.value) c.put_queries.ensures
