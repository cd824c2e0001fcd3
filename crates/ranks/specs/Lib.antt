pub mod Ranks
pub mod Inner
