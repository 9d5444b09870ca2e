pub mod Apart
pub mod Marking
pub mod Waiting
pub mod Rested
pub mod Looking
pub mod Holding
pub mod Adding
