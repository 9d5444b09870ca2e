pub mod Contents
pub mod Done
pub mod Holding
pub mod Rows
pub mod Serving
pub mod Shelf
