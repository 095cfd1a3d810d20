pub mod OperationsLaw
pub mod EffectsLaw
pub mod MessagesLaw
pub mod HistoryLaws
pub mod SightsLaw
pub mod FrontsLaw
pub mod RetriesLaw
pub mod ClaimsLaw
