pub mod Payload
pub mod Lengths
