pub mod Commands
pub mod Config
pub mod Shape
