pub mod Splices
pub mod Cuts
pub mod Steps
pub mod Chunks
pub mod Ranges
pub mod Even
pub mod Fills
pub mod Growths
