pub mod AioSteps
pub mod Numbered
pub mod Settings
pub mod Steps
pub mod Threads
