pub mod InOrder
pub mod KeyHashes
