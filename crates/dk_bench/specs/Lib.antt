pub mod Filling
pub mod Filled
pub mod Hosts
pub mod Sheet
pub mod SheetLaws
pub mod Rewriting
pub mod RewritingLawful
