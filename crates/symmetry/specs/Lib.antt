pub mod Symmetry
pub mod Inner
