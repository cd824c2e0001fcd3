pub mod File
pub mod Sizes
pub mod Report
pub mod Writing
pub mod Flat
pub mod Parsing
pub mod Sections
pub mod Inputs
