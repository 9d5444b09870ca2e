pub mod CommandLemmas
pub mod Exact
pub mod ShapeLemmas
