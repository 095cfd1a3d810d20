pub mod Found
pub mod Reading
pub mod Causes
pub mod Writing
