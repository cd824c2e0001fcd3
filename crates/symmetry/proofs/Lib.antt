pub mod Parts
pub mod Lists
pub mod Passes
pub mod Refusals
pub mod Loops
pub mod LoopBack
pub mod Whole
