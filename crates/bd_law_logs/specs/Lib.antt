pub mod Rows
pub mod Journals
pub mod Fits
pub mod Laws
pub mod Turning
pub mod Loose
