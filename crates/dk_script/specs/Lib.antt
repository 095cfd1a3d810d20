pub mod Knowledge
pub mod OrderLaw
pub mod Reading
pub mod Refusals
pub mod ScriptLaws
