pub mod Choices
pub mod Passed
pub mod Bounds
