pub mod Logs
pub mod Ranges
pub mod Refusals
