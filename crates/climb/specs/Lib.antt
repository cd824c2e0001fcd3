pub mod Asked
pub mod Sound
pub mod Climbing
pub mod Inner
