pub mod Order
pub mod Found
pub mod Lines
pub mod Index
pub mod Devices
