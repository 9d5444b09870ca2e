pub mod Accepted
pub mod Begun
pub mod Lone
