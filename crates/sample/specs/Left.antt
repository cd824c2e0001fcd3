-- What a sample still holds.
use Prim.Native.Nat.{ℕ}
use mathlib.Core.List.{List}
use Rattle.sample.specs.declared.Sample.{Sample}

-- the bytes that are left, from the next one on
abbrev pub left : Sample → List ℕ
left s = s.rest.now
