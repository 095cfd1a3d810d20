pub mod KeptSword
pub mod KeptCounters
pub mod KeptChannels
pub mod Shipped
