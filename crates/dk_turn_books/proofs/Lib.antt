pub mod Counting
pub mod InTurn
pub mod Passes
pub mod Places
pub mod Shares
