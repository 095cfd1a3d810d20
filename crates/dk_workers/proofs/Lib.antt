pub mod Honest
pub mod HonestRuns
pub mod Tries
pub mod Rounds
mod Servings
pub mod Shifts
pub mod Crossing
pub mod PlayOrder
pub mod Meanings
pub mod Passing
pub mod Meetings
pub mod WorkedRuns
pub mod Beginnings
pub mod Draining
pub mod Standing
pub mod Playing
pub mod Closing
pub mod Closed
