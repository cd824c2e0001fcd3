use native.Mathlib.Omega.{arith}
use Rattle.treefile.proofs.Writing.{prints_as}
use Rattle.querylines.proofs.Texts.{left_room, left_text}
use Rattle.querylines.proofs.answer.put_path.Goals as goal

pub put_list-requires : goal.put_list-requires
put_list-requires c = left_room _ c.requires.short _ _ _ c.path_ranges-listed.ensures (omega arith) c.requires.room

pub returns : goal.returns
returns c = prints_as (left_text _ c.requires.short _ _ _ c.path_ranges-listed.ensures (omega arith)) c.put_list.ensures
