pub mod Orders
pub mod Zeros
pub mod Maps
pub mod Stores
pub mod Volumes
pub mod Steps
