pub mod InMemory
pub mod Writing
