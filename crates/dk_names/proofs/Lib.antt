pub mod NextNames
