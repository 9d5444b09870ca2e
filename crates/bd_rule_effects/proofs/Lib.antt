pub mod Arriving
pub mod Dues
pub mod Each
mod Handles
pub mod Firsts
pub mod Left
pub mod Places
pub mod Written
