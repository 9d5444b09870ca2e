pub mod Chosen
pub mod Data
pub mod Due
pub mod Left
pub mod Queues
pub mod Unmarked
