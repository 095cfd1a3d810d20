pub mod EntryOfStep
