use mathlib.Core.List.{◌++◌}
use Rattle.treefile.specs.Report.{decimal, space}
use Rattle.treefile.proofs.Writing.{prints_then, room_first, room_then}
use Rattle.treefile.proofs.page.Page.put_query_head.Goals as goal

pub put_next-requires : goal.put_next-requires
put_next-requires c = room_first {s = space ++ decimal c.args.kind} space (room_then c.put_decimal.ensures c.requires)

pub put_byte-requires : goal.put_byte-requires
put_byte-requires c = room_then c.put_next.ensures (room_then c.put_decimal.ensures c.requires)

pub returns : goal.returns
returns c = prints_then c.put_decimal.ensures (prints_then c.put_next.ensures c.put_byte.ensures)
