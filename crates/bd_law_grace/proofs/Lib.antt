pub mod Unmarked
pub mod Rows
pub mod Kept
