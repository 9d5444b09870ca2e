pub mod Hard
pub mod Laws
