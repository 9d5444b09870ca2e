pub mod Ready
mod Lasts
