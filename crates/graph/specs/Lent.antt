-- 01, "What is delivered": the graph as two lent slices, os the offsets and ts the targets.
use Rattle.std.specs.Prelude.{ℕ, ◌+◌, ◌-◌, ◌≤◌, ◌<◌, ◌≡◌, Bool, true, false, List, [], ltb, leb, length}
use Rattle.std.proofs.Math.Seq.{slice}
use Rattle.sums.specs.Sum.{at}

-- "n+1 offsets"
abbrev pub vertices : List ℕ → ℕ
vertices os = length os - 1

abbrev pub or_empty : Bool → List ℕ → List ℕ
or_empty true l = l
or_empty false l = []

-- "the list of vertex u is the targets from offset u up to offset u+1"; it is "empty if u or its offsets are out of range or fall" ("Port order
-- and changed forms")
unfoldable pub list_of : List ℕ → List ℕ → ℕ → List ℕ
list_of os ts u =
    or_empty (ltb (u + 1) (length os))
    (or_empty (leb (at os u) (at os (u + 1)))
    (or_empty (leb (at os (u + 1)) (length ts)) (slice (at os u) (at os (u + 1)) ts)))

-- 3 BadOffsets is given when "first offset not 0, an offset falls, or the last is not E"
pub record Offsets (os ts : List ℕ) : Type 0 where
  pub first : at os 0 ≡ 0
  pub rise : (u : ℕ) → u < vertices os → at os u ≤ at os (u + 1)
  pub last : at os (vertices os) ≡ length ts

-- 4 BadVertex is given when "a target .. is n or more"
abbrev pub Targets : List ℕ → List ℕ → Type 0
Targets os ts = (e : ℕ) → e < length ts → at ts e < vertices os
