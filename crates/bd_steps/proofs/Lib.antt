mod Left
pub mod Completing
pub mod Overs
mod Holding
mod Spent
mod Refused
