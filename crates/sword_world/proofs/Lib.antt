pub mod ListSteps
pub mod Parts
pub mod Commands
pub mod SwordSends
