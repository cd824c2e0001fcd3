pub mod Lists
pub mod Walk
pub mod Tree
pub mod Rooted
pub mod Route
