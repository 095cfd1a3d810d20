pub mod SinkPieces
pub mod Fronts
