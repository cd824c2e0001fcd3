pub mod Judgement
pub mod Lent
pub mod Validation
pub mod Marks
pub mod Work
pub mod Steps
