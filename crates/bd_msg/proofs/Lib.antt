pub mod Rising
pub mod Without
