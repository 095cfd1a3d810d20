pub mod Sources
pub mod Refusals
