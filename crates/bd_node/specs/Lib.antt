pub mod Schedule
pub mod Disks
pub mod Whole
pub mod Times
pub mod Starting
pub mod Shutting
pub mod Waits
pub mod Gathering
