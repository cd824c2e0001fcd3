pub mod Runs
pub mod Numbers
pub mod Chains
pub mod Found
pub mod PathReadings
pub mod SimpleReadings
pub mod Bounds
pub mod RuleParts
