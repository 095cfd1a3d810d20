pub mod SwordRuns
pub mod SwordHistoryRuns
