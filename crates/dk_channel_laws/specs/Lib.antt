pub mod LeaveAllLaw
