pub mod Reach
pub mod Rests
pub mod Looks
