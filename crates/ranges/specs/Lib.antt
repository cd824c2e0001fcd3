pub mod Ranges
pub mod Flat
pub mod Readings
pub mod Parts
pub mod Calls
pub mod Inner
