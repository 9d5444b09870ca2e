pub mod Closing
pub mod Moving
pub mod Noting
pub mod Unfound
