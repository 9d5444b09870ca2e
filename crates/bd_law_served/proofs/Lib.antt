pub mod Over
pub mod Rows
pub mod Shut
pub mod Restamped
pub mod Example
