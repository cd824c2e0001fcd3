pub mod Hung
pub mod Writing
pub mod Listing
pub mod Valued
