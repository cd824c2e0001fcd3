use mathlib.Core.Path.{ap}
use lib.Seq.{take_all}
use Rattle.tables.specs.Tables.{six_in}
use Rattle.treefile.specs.Report.{query_lines}
use Rattle.treefile.proofs.Writing.{prints_as}
use Rattle.querylines.proofs.Placing.{lines_room, lines_more}
use Rattle.querylines.proofs.lines.put_queries.Goals as goal

pub put_query-requires : goal.put_query-requires
put_query-requires c =
    record { short = c.requires.short; room = lines_room (six_in c.args.tables.now) c.args.queries.now c.loop-i.i _ c.loop-i-test.true c.loop-i.invariant c.requires.room }

pub loop-i-preserved : goal.loop-i-preserved
loop-i-preserved c = lines_more (six_in c.args.tables.now) c.args.queries.now c.loop-i.i _ c.loop-i-test.true c.loop-i.invariant c.put_query.ensures

pub returns : goal.returns
returns c = prints_as (ap (query_lines (six_in c.args.tables.now) 1) (take_all _ c.args.queries.now c.loop-i-test.false)) c.loop-i.invariant
