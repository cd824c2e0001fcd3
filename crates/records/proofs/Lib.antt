pub mod Copying
pub mod Planning
pub mod Reading
