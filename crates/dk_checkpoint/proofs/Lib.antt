pub mod Replaced
pub mod Fresh
pub mod Held
pub mod Given
