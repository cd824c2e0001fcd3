pub mod Lights
pub mod Ranking
pub mod Numbers
