pub mod GivenBytes
pub mod KnownBytes
pub mod Crews
