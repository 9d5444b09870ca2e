pub mod Ledger
pub mod Standing
pub mod Quiescence
