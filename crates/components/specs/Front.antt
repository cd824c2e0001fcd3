-- The lent room for the lists.
use Rattle.std.specs.Prelude.{◌≡◌}
use Rattle.components.specs.declared.listing.Front.{Front}

-- the same three lent slices, whatever was written there
abbrev pub Same : Front → Front → Type 0
Same f f' =
    (f'.vertices.ghost_name ≡ f.vertices.ghost_name) × (f'.distances.ghost_name ≡ f.distances.ghost_name) × (f'.branches.ghost_name ≡ f.branches.ghost_name)
