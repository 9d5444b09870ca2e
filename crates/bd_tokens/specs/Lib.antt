pub mod Keys
pub mod Pended
pub mod Places
pub mod Tokens
pub mod Walks
