pub mod ChannelJobs
pub mod Owning
pub mod Running
pub mod SessionJobs
pub mod Lent
