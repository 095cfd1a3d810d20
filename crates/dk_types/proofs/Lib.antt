pub mod Steps
pub mod Numbers
pub mod FieldLaws
pub mod ExactLaws
pub mod Composing
pub mod NextLaws
pub mod ListLaws
