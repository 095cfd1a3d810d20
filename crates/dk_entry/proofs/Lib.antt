pub mod Limits
pub mod MapLists
pub mod OneEntry
