pub mod Numbering
pub mod RuleOne
pub mod Log
pub mod Lights
pub mod Ruled
