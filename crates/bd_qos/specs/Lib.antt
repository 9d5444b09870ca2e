pub mod Allowance
pub mod Bounds
