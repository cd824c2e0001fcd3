pub mod Reports
pub mod Filing
