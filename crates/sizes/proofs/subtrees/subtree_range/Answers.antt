-- `sizes::subtree_range` meets its contract: the number of a place is small.
use native.Mathlib.Omega.{arith}
use mathlib.Core.List.{[], ◌∷◌}
use Rattle.tables.specs.Tables.{six_in}
use Rattle.climb.proofs.Passed.{Passed, tests_passed, lengths, first_below}
use Rattle.climb.proofs.Soundness.{stood_placed}
use Rattle.climb.proofs.Reaching.{stood_on}
use Rattle.sizes.proofs.subtrees.subtree_range.Goals as goal

pub sound_size-requires : goal.sound_size-requires
sound_size-requires c =
    let p : Passed (six_in c.args.tables.now) (c.args.v ∷ []) = tests_passed _ _ c.in_ok-asked.ensures in
    record { size = (lengths p).size; vertex = first_below p; small = omega (arith, (stood_placed _ _ _ (stood_on c.in_ok-place.ensures)).id_below, c.well_formed) }
