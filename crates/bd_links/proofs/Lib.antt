pub mod Emptied
pub mod Longer
