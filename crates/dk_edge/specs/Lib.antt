pub mod Streams
pub mod MemorySource
pub mod MemorySink
pub mod Links
pub mod Listening
pub mod Peers
