-- 01, "Rule parts (added)": "two lent stores of 1 to 32,768 entries of equal length m .. For a range l < r ≤ m the call returns the part [l,r) of the
-- first if Forward, [m−r, m−l) of the second if Reversed, and otherwise an empty part."
use Rattle.std.specs.Prelude.{ℕ, ◌-◌, Bool, List, [], eqb, leb, ltb, length, take, drop}
use Rattle.answers.specs.Choice.{pick, both}
use Rattle.answers.specs.Limits.{max_store}
use Rattle.ranges.specs.declared.kinds.Direction.{Direction}
use Rattle.ranges.specs.declared.kinds.Direction.TheVariants.{Forward, Reversed}

abbrev pub part_in : Direction → List ℕ → List ℕ → ℕ → ℕ → List ℕ
part_in Forward first second l r = take (r - l) (drop l first)
part_in Reversed first second l r = take (r - l) (drop (length first - r) second)

-- the stores, of m and k entries, are of equal length and within the limit, and [l, r) is a range of theirs
abbrev pub named? : (m k l r : ℕ) → Bool
named? m k l r = both (leb 1 m) (both (leb m max_store) (both (eqb k m) (both (ltb l r) (leb r m))))

unfoldable pub rule_part : List ℕ → List ℕ → ℕ → ℕ → Direction → List ℕ
rule_part first second l r d = pick (named? (length first) (length second) l r) (part_in d first second l r) []
