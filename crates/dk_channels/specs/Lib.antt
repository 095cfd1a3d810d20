pub mod Channels
pub mod Sendings
pub mod BothRecords
pub mod AllMembers
pub mod BothAsks
