pub mod PayloadLaws
pub mod Loop
pub mod WholeLaws
pub mod LengthLaws
