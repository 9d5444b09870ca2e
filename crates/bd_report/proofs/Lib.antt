pub mod CounterLemmas
pub mod HandleLemmas
pub mod IndexLemmas
pub mod OrderLemmas
pub mod ReportLemmas
pub mod SuccessLemmas
pub mod WritingLemmas
