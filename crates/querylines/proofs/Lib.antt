pub mod Texts
pub mod Placing
