pub mod Bytes
pub mod Leaf
pub mod Table
pub mod Fills
pub mod Pages
