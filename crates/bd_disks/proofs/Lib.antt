pub mod Blockwise
pub mod Changing
pub mod Contents
pub mod Done
pub mod Ends
pub mod Held
pub mod Rewriting
