use mathlib.Core.Path.{refl}
use Rattle.graph.proofs.Calling.{fits_told, begun_fits, begun, whole_call}
use Rattle.centroid.proofs.decompose.try_centroid_decomposition.Goals as goal

pub returns : goal.returns
returns c =
    let d = rw c.vertices.ensures at c.long-fits.ensures in
    let f = c.in_ok-begin.ensures in
    let b = begun f refl in
    whole_call ((fits_told d).1 (begun_fits f refl)) b.room b c.decompose_graph-decomposed.ensures c.finish.ensures
