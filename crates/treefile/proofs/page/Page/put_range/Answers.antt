use Prim.Native.Nat.{ℕ}
use mathlib.Core.Path.{sym, ap}
use mathlib.Core.List.{[], ◌∷◌}
use Rattle.treefile.proofs.Writing.{prints_then, prints_as, room_first, room_then, room_as}
use Rattle.treefile.proofs.page.Page.put_range.Goals as goal

pub put_byte-requires : goal.put_byte-requires
put_byte-requires c = room_first _ (room_then c.put_decimal.ensures c.requires)

pub put_decimal-requires-2 : goal.put_decimal-requires-2
put_decimal-requires-2 c = room_first _ (room_then c.put_byte.ensures (room_then c.put_decimal.ensures c.requires))

pub put_byte-requires-2 : goal.put_byte-requires-2
put_byte-requires-2 c =
    room_as (sym (ap (λ (b : ℕ). b ∷ []) c.letter.ensures))
    (room_then c.put_decimal-2.ensures (room_then c.put_byte.ensures (room_then c.put_decimal.ensures c.requires)))

pub returns : goal.returns
returns c =
    let last = prints_as (ap (λ (b : ℕ). b ∷ []) c.letter.ensures) c.put_byte-2.ensures in
    prints_then c.put_decimal.ensures (prints_then c.put_byte.ensures (prints_then c.put_decimal-2.ensures last))
