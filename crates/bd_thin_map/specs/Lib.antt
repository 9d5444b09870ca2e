pub mod Map
pub mod Pairs
