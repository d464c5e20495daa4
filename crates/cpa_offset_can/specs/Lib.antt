pub mod CanOffsets
pub mod Frames
pub mod Laws
