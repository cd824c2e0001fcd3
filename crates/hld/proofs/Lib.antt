pub mod Children
pub mod Carried
pub mod Tabled
pub mod Ranks
pub mod Built
pub mod Meaning
pub mod Whole
