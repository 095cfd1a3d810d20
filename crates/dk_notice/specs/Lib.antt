pub mod Boards
pub mod Notices
