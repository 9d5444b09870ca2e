pub mod Locks
pub mod Near
