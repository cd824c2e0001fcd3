use mathlib.Core.Path.{refl}
use Rattle.graph.proofs.Calling.{fits_told, begun_fits, begun, whole_call}
use Rattle.hld.proofs.build.try_hld.Goals as goal

pub returns-clause-builds : goal.returns-clause-builds
returns-clause-builds c =
    let told = fits_told (rw c.vertices.ensures at c.long-fits.ensures) in
    let b = begun c.in_ok-begin.ensures refl in
    whole_call (told.1 (begun_fits c.in_ok-begin.ensures refl)) b.room b c.build-built.ensures.built c.finish.ensures
