-- 01, "Definitions": the ranges of the path from u to v, on any tables.
use Rattle.std.specs.Prelude.{ℕ, ◌+◌, ◌-◌, ◌*◌, List, [], ◌∷◌, ◌++◌, map, reverse, ltb}
use Rattle.tables.specs.Tables.{Six}
use Rattle.answers.specs.Choice.{pick}
use Rattle.climb.specs.Climbing.{Ascent, strays, meets, ascent}
use Rattle.climb.specs.declared.places.Place.{Place}
use Rattle.ranges.specs.declared.kinds.Direction.{Direction}
use Rattle.ranges.specs.declared.kinds.Direction.TheVariants.{Forward, Reversed}
use Rattle.ranges.specs.declared.kinds.PathRange.{PathRange}
use Rattle.ranges.specs.declared.kinds.Piece.{Piece}
use Rattle.ranges.specs.declared.kinds.Kind.{Kind}
use Rattle.ranges.specs.declared.kinds.Kind.TheVariants.{Vertices, Edges, Both}

-- the numbers [l, r) of the vertices that a path has on one chain, read in a direction
abbrev pub piece : ℕ → ℕ → Direction → Piece
piece l r d = record { from = l; to = r; direction = d }

-- the piece of the chain that a side leaves from a place, from its head's number on. "The u side climbs chain by chain (Reversed, high to low)"
abbrev pub u_piece : Place → Piece
u_piece x = piece x.first (x.id + 1) Reversed

-- "then the v side in turned order (Forward)"
abbrev pub v_piece : Place → Piece
v_piece x = piece x.first (x.id + 1) Forward

-- "In the last chain, if id(v) < id(u) the range goes to the u side, else to the v side"
abbrev pub last_piece : Place → Place → Piece
last_piece p q = pick (ltb q.id p.id) (piece q.id (p.id + 1) Reversed) (piece p.id (q.id + 1) Forward)

-- a range with the numbers [l, r), and the rest from the piece that it is of: the one place where a piece becomes a record
abbrev pub range : ℕ → ℕ → Piece → PathRange
range l r p = record { start = l; end = r; direction = p.direction }

-- the range of a chain that is left. "Vertex x is 2·id, its parent edge 2·id−1. A range [l,r) becomes [2l−1, 2r−1)"
abbrev pub chain_range : Kind → Piece → PathRange
chain_range Vertices p = range p.from p.to p
chain_range Edges p = range p.from p.to p
chain_range Both p = range (2 * p.from - 1) (2 * p.to - 1) p

-- the range of the last chain: "Edge ranges: the same without the LCA's id; an empty last range is left out"; the doubled one "starts at 2l"
abbrev pub last_range : Kind → Piece → List PathRange
last_range Vertices p = range p.from p.to p ∷ []
last_range Edges p = pick (ltb (p.from + 1) p.to) (range (p.from + 1) p.to p ∷ []) []
last_range Both p = range (2 * p.from) (2 * p.to - 1) p ∷ []

-- the ranges of a climb, or none where it is lost
pub data Found : Type 0 where
  lost : Found
  found : List PathRange → Found

-- "the u side climbs chain by chain (Reversed, high to low), then the v side in turned order (Forward)", with the last chain between the two
abbrev pub ranges_along : Kind → Ascent → Found
ranges_along kind strays = lost
ranges_along kind (meets us vs p q) =
    found (map (λ x. chain_range kind (u_piece x)) us ++ (last_range kind (last_piece p q) ++ map (λ x. chain_range kind (v_piece x)) (reverse vs)))

unfoldable pub path_ranges : Kind → ℕ → Six → ℕ → ℕ → Found
path_ranges kind n t u v = ranges_along kind (ascent n t u v)
