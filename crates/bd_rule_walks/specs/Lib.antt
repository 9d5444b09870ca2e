pub mod Walking
pub mod Counted
