use mathlib.Core.Path.{sym}
use mathlib.Core.List.{◌++◌}
use Rattle.treefile.specs.Report.{decimal, space}
use Rattle.treefile.proofs.Writing.{prints_then, prints_as, room_first, room_then, room_as}
use Rattle.treefile.proofs.Report.{refused_text, accepted_text}
use Rattle.treefile.proofs.page.Page.put_built.Goals as goal

pub put_decimal-requires : goal.put_decimal-requires
put_decimal-requires c = room_as (refused_text _ _ _ c.if-code-ne0.true) c.requires

pub returns-then-code-ne0 : goal.returns-then-code-ne0
returns-then-code-ne0 c = prints_as (sym (refused_text _ _ _ c.if-code-ne0.true)) c.put_decimal.ensures

pub put_next-requires : goal.put_next-requires
put_next-requires c =
    let all = room_as (accepted_text _ _ _ c.if-code-ne0.false) c.requires in
    room_first {s = space ++ decimal c.args.n} (space ++ decimal c.args.root) (room_then c.put_decimal-2.ensures all)

pub put_next-requires-2 : goal.put_next-requires-2
put_next-requires-2 c =
    let all = room_as (accepted_text _ _ _ c.if-code-ne0.false) c.requires in
    room_then c.put_next.ensures (room_then c.put_decimal-2.ensures all)

pub returns : goal.returns
returns c =
    prints_as (sym (accepted_text _ _ _ c.if-code-ne0.false))
    (prints_then c.put_decimal-2.ensures (prints_then c.put_next.ensures c.put_next-2.ensures))
