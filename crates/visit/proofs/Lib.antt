pub mod Growing
pub mod Looking
pub mod Going
pub mod Positions
pub mod Edges
