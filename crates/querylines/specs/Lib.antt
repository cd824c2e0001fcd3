pub mod Answering
pub mod Lines
