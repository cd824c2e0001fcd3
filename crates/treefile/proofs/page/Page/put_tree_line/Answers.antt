use Rattle.treefile.proofs.Writing.{prints_then, room_then}
use Rattle.treefile.proofs.page.Page.put_tree_line.Goals as goal

pub put_byte-requires : goal.put_byte-requires
put_byte-requires c = room_then c.put_built.ensures (room_then c.put_bytes.ensures c.requires)

pub returns : goal.returns
returns c = prints_then c.put_bytes.ensures (prints_then c.put_built.ensures c.put_byte.ensures)
