pub mod Queues
pub mod Entries
