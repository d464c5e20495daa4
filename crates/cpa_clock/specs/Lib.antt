pub mod Anchors
pub mod Rivals
pub mod Gathered
pub mod Clocked
pub mod Wider
pub mod Laws
