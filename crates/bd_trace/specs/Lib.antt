pub mod Acts
pub mod Fields
pub mod History
pub mod Messages
pub mod Registry
pub mod Words
