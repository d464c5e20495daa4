pub mod Offsets
pub mod Candidates
pub mod Jobs
pub mod Idle
pub mod Laws
