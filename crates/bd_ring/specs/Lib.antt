pub mod Posts
pub mod RingRule
pub mod Rings
pub mod SlotRule
pub mod Slots
pub mod Counting
