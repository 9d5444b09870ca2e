pub mod Channel
pub mod Holds
