pub mod Beside
pub mod Answering
pub mod Following
pub mod Staying
