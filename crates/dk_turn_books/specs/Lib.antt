pub mod Legs
pub mod Lines
pub mod Ticks
