pub mod Causes
pub mod Incoming
pub mod Outgoing
pub mod Taking
