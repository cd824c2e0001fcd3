pub mod Building
pub mod Telling
pub mod Files
pub mod Meaning
