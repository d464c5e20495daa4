pub mod WindowBoundLaws
pub mod CandidateLaws
pub mod BoundLaws
pub mod WalkLaws
pub mod ApartLaws
mod WorkedCases
pub mod IdleLaws
