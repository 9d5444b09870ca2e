pub mod Each
pub mod Here
pub mod Listed
pub mod Placed
