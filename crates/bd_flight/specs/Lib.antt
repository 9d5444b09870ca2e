pub mod Due
pub mod Next
