pub mod Bounds
pub mod Slots
pub mod ReadBack
pub mod Ends
pub mod Looks
pub mod Numbered
pub mod Few
pub mod Parted
