pub mod Meanings
pub mod Fields
pub mod Fronts
pub mod Decoding
pub mod Behind
pub mod FrameLaws
