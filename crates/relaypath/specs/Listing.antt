-- What a C caller gets of the ranges of a path and of a rule part.
use Rattle.std.specs.Prelude.{ℕ, zero, suc, ◌-◌, ◌≡◌, List, [], ◌∷◌, length, take, drop}
use Rattle.ranges.specs.Calls.{Answered, room_answer, room_list}
use Rattle.ranges.specs.Parts.{rule_part}
use Rattle.ranges.specs.declared.kinds.Direction.TheVariants.{Forward, Reversed}
use Rattle.relaypath.specs.Handed.{HandedCount}

-- the list lent, afterwards, and how many ranges it has in the number lent for that
pub record HandedList (a : Answered) (lent left : List ℕ) (before after code : ℕ) : Type 0 where
  pub count : HandedCount (room_answer a (length lent)) before after code
  pub list : left ≡ room_list a lent

-- where a part begins in its store: 0 where it is empty
abbrev pub place_of : List ℕ → ℕ → ℕ
place_of [] start = 0
place_of (x ∷ part) start = start

-- a part that is not empty is the `count` entries of the store from the given start on
pub record PartAt (part store : List ℕ) (start place count : ℕ) : Type 0 where
  pub entries : take count (drop place store) ≡ part
  pub long : count ≡ length part
  pub begins : place ≡ place_of part start

-- the part that the number of a direction names: 0 is Forward, 1 is Reversed, and any other names an empty one
abbrev pub PartNamed : (first second : List ℕ) → ℕ → ℕ → ℕ → ℕ → ℕ → Type 0
PartNamed first second l r zero place count = PartAt (rule_part first second l r Forward) first l place count
PartNamed first second l r (suc zero) place count = PartAt (rule_part first second l r Reversed) second (length first - r) place count
PartNamed first second l r (suc (suc d)) place count = PartAt [] [] 0 place count
