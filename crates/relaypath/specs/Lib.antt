pub mod Handed
pub mod Listing
