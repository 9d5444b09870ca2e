pub mod Completing
pub mod Marks
pub mod Laws
