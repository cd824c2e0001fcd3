pub mod Visit
pub mod Steps
