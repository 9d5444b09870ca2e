pub mod ByDevice
pub mod Counts
