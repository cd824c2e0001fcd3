pub mod Passes
pub mod Inner
