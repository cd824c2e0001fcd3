pub mod Queries
pub mod Inner
