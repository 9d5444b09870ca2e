pub mod Determined
pub mod Leads
