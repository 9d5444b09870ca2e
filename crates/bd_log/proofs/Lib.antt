pub mod ByPlaces
pub mod Choice
pub mod Order
pub mod Parts
pub mod SameStamp
pub mod Stamping
pub mod Taking
pub mod Unique
