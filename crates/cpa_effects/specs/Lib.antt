pub mod Bounds
pub mod Calls
pub mod ChainText
pub mod Effects
pub mod Laws
