use Rattle.centroid.proofs.Finding.{pick_asks, found}
use Rattle.centroid.proofs.search.find_centroid.Goals as goal

pub pick_centroid-requires : goal.pick_centroid-requires
pick_centroid-requires c = pick_asks c.requires c.walk_component-total.ensures

pub returns : goal.returns
returns c = found c.requires c.walk_component-total.ensures c.pick_centroid.ensures
