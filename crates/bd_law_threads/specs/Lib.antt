pub mod Course
pub mod Steps
pub mod Ends
