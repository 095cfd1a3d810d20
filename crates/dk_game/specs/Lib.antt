pub mod Halted
pub mod Moving
