pub mod Twins
pub mod Lawful
pub mod Between
