pub mod Checking
pub mod Refusing
pub mod Spanning
pub mod Numbering
pub mod Answering
pub mod Halving
pub mod Decomposing
pub mod PCases
