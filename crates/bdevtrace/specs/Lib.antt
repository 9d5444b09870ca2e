pub mod Answer
pub mod Traced
