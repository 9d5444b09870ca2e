pub mod Play
pub mod Refusals
pub mod Words
