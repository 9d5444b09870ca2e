pub mod Downwards
pub mod Numbered
pub mod Standing
