pub mod Due
pub mod Homes
pub mod Marks
