-- What a cursor still has before it.
use Prim.Native.Nat.{ℕ}
use mathlib.Core.List.{List}
use Rattle.casetext.specs.declared.cursor.Cursor.{Cursor}

-- the bytes that are left of the line
abbrev pub left : Cursor → List ℕ
left c = c.rest.now
