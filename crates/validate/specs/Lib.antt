pub mod Judged
pub mod Counts
