pub mod FrameLaws
pub mod CanLaws
mod WorkedCases
