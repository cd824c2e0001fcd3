pub mod Tests
pub mod First
pub mod Numbers
pub mod Answers
pub mod InC
pub mod Centroids
pub mod Second
pub mod Third
