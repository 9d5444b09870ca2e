pub mod Seats
pub mod Shutting
pub mod Waits
