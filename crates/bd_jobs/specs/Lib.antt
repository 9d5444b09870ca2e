pub mod Commands
pub mod Generated
pub mod Held
pub mod ScriptGrammar
pub mod Words
