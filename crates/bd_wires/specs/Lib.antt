pub mod Rows
pub mod Transposing
pub mod Wires
