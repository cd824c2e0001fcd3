pub mod Frames
pub mod Neighbours
pub mod Bits
pub mod Judging
pub mod Rooms
pub mod Passed
pub mod Calling
