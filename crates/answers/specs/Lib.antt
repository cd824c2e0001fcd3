pub mod Choice
pub mod Codes
pub mod Limits
pub mod Answers
pub mod Asked
