pub mod Components
pub mod Decomposition
pub mod Lists
pub mod Calls
pub mod Regions
pub mod Search
pub mod Parting
pub mod Reads
