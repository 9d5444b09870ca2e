pub mod Rows
pub mod Shelf
pub mod Firsts
pub mod Under
pub mod Lines
