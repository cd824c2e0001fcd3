pub mod Sums
pub mod Counts
pub mod Pigeon
pub mod Images
