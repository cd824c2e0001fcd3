pub mod Inner
pub mod Values
