pub mod Due
pub mod Places
pub mod Tasks
