pub mod ItemLaws
pub mod TaskLaws
pub mod Drafts
pub mod EntryLaws
