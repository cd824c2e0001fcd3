-- What only the contracts of the calls' own functions cite: what they ask and what they leave in a lent list.
use Rattle.std.specs.Prelude.{ℕ, ◌*◌, ◌≤◌, ◌≡◌, List, length, Option, Some}
use Rattle.answers.specs.Limits.{max_vertices}
use Rattle.tables.specs.Tables.{Six}
use Rattle.climb.specs.Asked.{size_of}
use Rattle.climb.specs.Inner.{ClimbsFrom}
use Rattle.climb.specs.declared.places.Place.{Place}
use Rattle.ranges.specs.declared.kinds.PathRange.{PathRange}
use Rattle.ranges.specs.declared.kinds.Kind.{Kind}
use Rattle.ranges.specs.Ranges.{found, path_ranges}
use Rattle.ranges.specs.Flat.{stride, flat_front}
use Rattle.ranges.specs.Inner.{Slot}

pub record LastSlot (w : List ℕ) (slot : ℕ) (last : Option PathRange) : Type 0 where
  pub each : (r : PathRange) → last ≡ Some r → Slot w slot r

-- the ranges of a path are known, with their number
pub record Known (kind : Kind) (n : ℕ) (t : Six) (u v count : ℕ) : Type 0 where
  pub ranges : List PathRange
  pub same : path_ranges kind n t u v ≡ found ranges
  pub counted : length ranges ≡ count

-- p and q were reached, and the list has room for the ranges between them
pub record Writes (kind : Kind) (t : Six) (p q : Place) (count : ℕ) (w : List ℕ) : Type 0 where
  pub climbs : ClimbsFrom t p q
  pub small : size_of t ≤ max_vertices
  pub known : Known kind (size_of t) t p.vertex q.vertex count
  pub room : stride * count ≤ length w

-- the ranges of the path from the front on, and the rest of the list as it was
pub record Wrote (kind : Kind) (t : Six) (u v : ℕ) (w w' : List ℕ) : Type 0 where
  pub each : (l : List PathRange) → path_ranges kind (size_of t) t u v ≡ found l → w' ≡ flat_front l w
