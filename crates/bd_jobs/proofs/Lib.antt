pub mod GeneratedLemmas
pub mod GeneratedReads
pub mod HeldLemmas
pub mod ReadLemmas
pub mod ScriptLemmas
pub mod WordLemmas
pub mod WrittenLemmas
