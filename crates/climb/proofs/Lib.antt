pub mod Soundness
pub mod Reaching
pub mod Climbs
pub mod Passed
pub mod Going
pub mod Handed
