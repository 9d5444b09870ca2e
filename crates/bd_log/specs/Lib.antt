pub mod FirstStamp
pub mod Firsts
pub mod Log
pub mod Merge
pub mod Places
