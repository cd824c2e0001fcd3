-- A tenth's digits and the last one are the number's.
use native.Mathlib.Omega.{arith}
use mathlib.Core.Path.{sym}
use Rattle.treefile.proofs.Digits.{decimal_low, decimal_high}
use Rattle.treefile.proofs.Writing.{prints_then, prints_as, room_first, room_then, room_as}
use Rattle.treefile.proofs.page.Page.+put_decimal.Goals as goal

pub put_byte-requires : goal.put_byte-requires
put_byte-requires t c = room_as (decimal_low _ c.if-x-lt10.true) c.requires

pub returns-then-x-lt10 : goal.returns-then-x-lt10
returns-then-x-lt10 t c = prints_as (sym (decimal_low _ c.if-x-lt10.true)) c.put_byte.ensures

pub put_decimal-requires : goal.put_decimal-requires
put_decimal-requires t c = (omega arith, room_first _ (room_as (decimal_high _ c.if-x-lt10.false (omega arith)) c.requires))

pub put_byte-requires-2 : goal.put_byte-requires-2
put_byte-requires-2 t c = room_then c.put_decimal.ensures (room_as (decimal_high _ c.if-x-lt10.false (omega arith)) c.requires)

pub returns : goal.returns
returns t c = prints_as (sym (decimal_high _ c.if-x-lt10.false (omega arith))) (prints_then c.put_decimal.ensures c.put_byte-2.ensures)
