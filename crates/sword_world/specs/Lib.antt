pub mod Things
pub mod ThingLaws
pub mod Texts
pub mod Labels
pub mod Rules
pub mod LawfulRules
