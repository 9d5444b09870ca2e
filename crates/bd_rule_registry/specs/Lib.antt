pub mod Born
pub mod Named
