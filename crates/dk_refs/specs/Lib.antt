pub mod Managing
pub mod Telling
pub mod RecordReads
pub mod Lookups
pub mod RecordAsks
