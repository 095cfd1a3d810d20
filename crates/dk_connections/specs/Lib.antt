pub mod Altered
pub mod MarkedConnections
pub mod Places
pub mod Posts
pub mod Queues
pub mod Ready
