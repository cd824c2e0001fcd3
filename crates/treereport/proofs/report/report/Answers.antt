use native.Mathlib.Omega.{arith}
use mathlib.Core.Path.{refl, sym, ◌∙◌}
use borrow.Author.Rules.{rules}
use Rattle.treereport.specs.Reports.{report_room}
use Rattle.treereport.proofs.Files.{own_buffers, file_asks, reports_file, reports_short, reports_bad}
use Rattle.treereport.proofs.report.report.Goals as goal

pub returns-then-out-lt-REPORT_ROOM : goal.returns-then-out-lt-REPORT_ROOM
unfolding report_room
returns-then-out-lt-REPORT_ROOM c = reports_short _ _ c.if-out-lt-REPORT_ROOM.true

pub parse-requires : goal.parse-requires
parse-requires c = own_buffers _ _ _ refl refl refl

pub returns-in_default : goal.returns-in_default
unfolding report_room
returns-in_default c =
    reports_bad _ refl (sym c.in_default.is ∙ c.parse.ensures.shape) c.if-out-lt-REPORT_ROOM.false c.put_bad_file.ensures (search rules)

pub report_file-requires : goal.report_file-requires
unfolding report_room
report_file-requires c = file_asks c.parse.ensures c.in-Some.is (omega (arith, c.if-out-lt-REPORT_ROOM.false))

pub returns : goal.returns
unfolding report_room
returns c =
    let same = c.report_file.ensures.text.same in
    reports_file c.parse.ensures c.in-Some.is refl c.if-out-lt-REPORT_ROOM.false c.report_file.ensures (search rules)
