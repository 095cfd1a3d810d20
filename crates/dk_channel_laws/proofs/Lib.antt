pub mod Steps
pub mod Exact
pub mod Members
pub mod Objects
pub mod Saves
pub mod Leaves
pub mod LeaveAll
