use Rattle.treefile.proofs.Writing.{prints_then, room_then}
use Rattle.treefile.proofs.page.Page.put_fields.Goals as goal

pub put_next-requires : goal.put_next-requires
put_next-requires c = room_then c.put_decimal.ensures c.requires

pub returns : goal.returns
returns c = prints_then c.put_decimal.ensures c.put_next.ensures
