pub mod Front
pub mod Levels
pub mod Entering
pub mod Listing
