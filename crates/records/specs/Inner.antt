-- What only the contracts of the calls' own functions cite: what copying records asks and leaves.
use Rattle.std.specs.Prelude.{ℕ, zero, suc, ◌≤◌, List, length, set}
use Rattle.answers.specs.Limits.{most_ranges}
use Rattle.ranges.specs.declared.kinds.PathRange.{PathRange}
use Rattle.ranges.specs.Flat.{range_at}
use Rattle.rangelists.specs.declared.values.PathRanges.{PathRanges}

-- the ranges in k slots, from slot i on, each put in its place in a list of records
abbrev pub copied : List ℕ → (i k : ℕ) → List PathRange → List PathRange
copied w i zero records = records
copied w i (suc k) records = copied w (suc i) k (set records i (range_at w i))

-- the slice has room for the records
pub record Copies (p : PathRanges) (lent : List PathRange) : Type 0 where
  pub fits : p.count ≤ length lent
  pub few : p.count ≤ most_ranges
