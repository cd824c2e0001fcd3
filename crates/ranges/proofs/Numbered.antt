-- The ranges of chains are ranges of 32-bit numbers.
use Prim.Native.Nat.{ℕ, ◌+◌}
use native.Mathlib.Omega.{arith}
use mathlib.Core.Path.{◌≡◌, subst}
use mathlib.Core.Bool.{Bool, true, false}
use mathlib.Core.List.{[], ◌∷◌}
use lib.Dec.{ltb}
use native.Mathlib.Decide.{dec_lt}
use borrow.Author.Tests.{lt-ltb, le-ltb}
use Rattle.answers.proofs.Bounds.{vertices_small}
use Rattle.answers.specs.Choice.{pick}
use Rattle.climb.specs.declared.places.Climb.{Climb}
use Rattle.ranges.specs.declared.kinds.PathRange.{PathRange}
use Rattle.ranges.specs.declared.kinds.Piece.{Piece}
use Rattle.ranges.specs.declared.kinds.Kind.{Kind}
use Rattle.ranges.specs.declared.kinds.Kind.TheVariants.{Vertices, Edges, Both}
use Rattle.ranges.specs.Ranges.{last_piece, chain_range, last_range}
use Rattle.ranges.specs.Inner.{Numbers, Ends, last_chain, Small}

pub chain_small : (kind : Kind) (p : Piece) → Numbers p → Small (chain_range kind p)
chain_small Vertices p h = let s = vertices_small in record { start = omega arith; end = omega arith }
chain_small Edges p h = let s = vertices_small in record { start = omega arith; end = omega arith }
chain_small Both p h = let s = vertices_small in record { start = omega arith; end = omega arith }

only : {x y : PathRange} → x ∷ [] ≡ y ∷ [] → Small x → Small y
only {x} {y} e s = let f : x ≡ y = cc in subst Small f s

picked : (b : Bool) {x y : PathRange} → pick b (x ∷ []) [] ≡ y ∷ [] → Small x → Small y
picked true e s = only e s
picked false e s = let z : ◌≡◌ {A = ℕ} 0 1 = cc in absurd (omega arith)

last_small : (kind : Kind) (p : Piece) → Numbers p → {x : PathRange} → last_range kind p ≡ x ∷ [] → Small x
last_small Vertices p h e = let s = vertices_small in only e (record { start = omega arith; end = omega arith })
last_small Edges p h e = let s = vertices_small in picked (ltb (p.from + 1) p.to) e (record { start = omega arith; end = omega arith })
last_small Both p h e = let s = vertices_small in only e (record { start = omega arith; end = omega arith })

-- the piece of the last chain has a number
pub last-numbers : (c : Climb) → Ends c → Numbers (last_piece c.u c.v)
last-numbers c h = elim (dec_lt c.v.id c.u.id) [
  | yes l ↦ rw (lt-ltb c.v.id c.u.id l) (record { some = omega arith; small = omega (arith, h.u) })
  | no l ↦ rw (le-ltb c.v.id c.u.id (omega arith)) (record { some = omega arith; small = omega (arith, h.v) })
]

-- the range of the last chain
pub last_chain_small : (kind : Kind) (c : Climb) → Ends c → {x : PathRange} → last_chain kind c ≡ x ∷ [] → Small x
last_chain_small kind c h e = last_small kind (last_piece c.u c.v) (last-numbers c h) e
