pub mod Sent
pub mod Spared
