use native.Mathlib.Omega.{arith}
use Rattle.centroid.proofs.Taking.{take_few, take_asks, take_level, take_adds, taken}
use Rattle.centroid.proofs.decompose.remove_centroid.Goals as goal

pub offset_bounds-work-n : goal.offset_bounds-work-n
offset_bounds-work-n c = omega (arith, take_few c.requires)

pub bounds-work-n : goal.bounds-work-n
bounds-work-n c = omega (arith, take_few c.requires)

pub overflow_add-above : goal.overflow_add-above
overflow_add-above c = omega (arith, take_few c.requires)

pub offset_bounds-work-n-2 : goal.offset_bounds-work-n-2
offset_bounds-work-n-2 c = omega (arith, take_few c.requires)

pub bounds-work-n-2 : goal.bounds-work-n-2
bounds-work-n-2 c = omega (arith, take_few c.requires)

pub overflow_add-depth : goal.overflow_add-depth
overflow_add-depth c = omega (arith, take_few c.requires)

pub offset_bounds-work-n-3 : goal.offset_bounds-work-n-3
offset_bounds-work-n-3 c = omega (arith, take_few c.requires)

pub bounds-work-n-3 : goal.bounds-work-n-3
bounds-work-n-3 c = omega (arith, take_few c.requires)

pub find_centroid-c-requires : goal.find_centroid-c-requires
find_centroid-c-requires c = take_asks c.requires

pub overflow_add-depth-2 : goal.overflow_add-depth-2
overflow_add-depth-2 c = omega (arith, take_level c.requires c.find_centroid-c.ensures c.mark.ensures)

pub add_starts-requires : goal.add_starts-requires
add_starts-requires c = take_adds c.requires c.find_centroid-c.ensures c.mark.ensures

pub returns : goal.returns
returns c =
    rw c.note.ensures (taken c.requires c.find_centroid-c.ensures c.mark.ensures c.add_starts.ensures)
