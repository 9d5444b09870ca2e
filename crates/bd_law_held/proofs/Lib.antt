pub mod Over
pub mod Rows
pub mod Shut
pub mod Restamped
pub mod Ends
pub mod Accepted
pub mod Example
