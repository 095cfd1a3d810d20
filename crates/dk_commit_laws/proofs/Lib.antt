pub mod Nexts
pub mod Spelled
pub mod Short
pub mod Lengths
pub mod Payloads
