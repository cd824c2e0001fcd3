pub mod Runs
pub mod Heavy
pub mod Weighing
pub mod Weights
