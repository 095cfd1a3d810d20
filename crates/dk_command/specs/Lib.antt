pub mod Games
pub mod Grammar
pub mod Matches
pub mod Found
pub mod Commands
pub mod Requests
