pub mod AioDevices
pub mod Disks
pub mod Made
pub mod Progress
pub mod Rows
