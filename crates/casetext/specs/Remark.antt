-- Which lines of a text have no case.
use Rattle.std.specs.Prelude.{eqb}
use Prim.Native.Nat.{ℕ}
use mathlib.Core.Bool.{Bool, true}
use mathlib.Core.List.{List, [], ◌∷◌}

-- the byte # begins a remark
abbrev pub hash : ℕ
hash = 35

-- an empty line and a remark
abbrev pub remark? : List ℕ → Bool
remark? [] = true
remark? (b ∷ l) = eqb b hash
