pub mod Cases
pub mod Checks
pub mod GraphChecks
pub mod TableChecks
pub mod AnswerChecks
pub mod CentroidChecks
pub mod Holds
pub mod Table
