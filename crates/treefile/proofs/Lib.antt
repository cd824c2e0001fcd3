pub mod Digits
pub mod Writing
pub mod Flat
pub mod Report
pub mod FileNumbers
pub mod Trees
pub mod Queries
pub mod Inputs
