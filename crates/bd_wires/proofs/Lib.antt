pub mod EndRows
pub mod Exchanging
pub mod Lists
pub mod NewRows
