pub mod Laws
pub mod Readings
pub mod Rounds
pub mod Stale
