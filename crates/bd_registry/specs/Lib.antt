pub mod Handles
pub mod State
pub mod Names
pub mod Registered
pub mod Tables
pub mod Laws
