use mathlib.Core.Path.{sym}
use Rattle.treefile.proofs.Report.{query_line_lem}
use Rattle.treefile.proofs.Writing.{prints_as, prints_then, room_as, room_first, room_then}
use Rattle.querylines.proofs.lines.put_query.Goals as goal

pub put_query_head-requires : goal.put_query_head-requires
put_query_head-requires c = room_first _ (room_as (query_line_lem _ _ _) c.requires.room)

pub put_answer-requires : goal.put_answer-requires
put_answer-requires c =
    record { short = c.requires.short; room = room_first _ (room_then c.put_query_head.ensures (room_as (query_line_lem _ _ _) c.requires.room)) }

pub put_byte-requires : goal.put_byte-requires
put_byte-requires c = room_then c.put_answer.ensures (room_then c.put_query_head.ensures (room_as (query_line_lem _ _ _) c.requires.room))

pub returns : goal.returns
returns c = prints_as (sym (query_line_lem _ _ _)) (prints_then c.put_query_head.ensures (prints_then c.put_answer.ensures c.put_byte.ensures))
