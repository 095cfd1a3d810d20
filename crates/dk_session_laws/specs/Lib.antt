pub mod Sessions
pub mod Numbers
pub mod KeepingLaw
pub mod SessionsLaw
