-- What only the contracts of inner functions cite: what they ask, and what they leave in a slot of a list.
use Rattle.std.specs.Prelude.{ℕ, ◌+◌, ◌*◌, ◌≤◌, ◌<◌, ◌^◌, List, [], ◌∷◌, length, Option, Some, None}
use Rattle.std.proofs.lemmas.List.Edits.{sets}
use Rattle.answers.specs.Limits.{max_vertices}
use Rattle.climb.specs.declared.places.Climb.{Climb}
use Rattle.ranges.specs.declared.kinds.PathRange.{PathRange}
use Rattle.ranges.specs.declared.kinds.Piece.{Piece}
use Rattle.ranges.specs.declared.kinds.Kind.{Kind}
use Rattle.ranges.specs.Ranges.{last_piece, last_range}
use Rattle.ranges.specs.Flat.{stride, flat}

-- a piece has a number, and its numbers are those of vertices
pub record Numbers (p : Piece) : Type 0 where
  pub some : p.from < p.to
  pub small : p.to ≤ max_vertices

-- the piece of a chain that is left: its head has a parent, which has a smaller number
pub record Chain (p : Piece) : Type 0 where
  pub above : 1 ≤ p.from
  pub numbers : Numbers p

-- the numbers of both ends are those of vertices
pub record Ends (c : Climb) : Type 0 where
  pub u : c.u.id < max_vertices
  pub v : c.v.id < max_vertices

-- the range of the last chain of a climb
abbrev pub last_chain : Kind → Climb → List PathRange
last_chain kind c = last_range kind (last_piece c.u c.v)

-- the range of the last chain, or none, as a list
abbrev pub last_list : Option PathRange → List PathRange
last_list (Some r) = r ∷ []
last_list None = []

-- a list with ranges written into its slots, from the given one on
abbrev pub written : List ℕ → ℕ → List PathRange → List ℕ
written w slot l = sets w (stride * slot) (flat l)

-- a range of 32-bit numbers
pub record Small (r : PathRange) : Type 0 where
  pub start : r.start < 2 ^ 32
  pub end : r.end < 2 ^ 32

pub record Slot (w : List ℕ) (slot : ℕ) (r : PathRange) : Type 0 where
  pub room : stride * slot + stride ≤ length w
  pub small : Small r
