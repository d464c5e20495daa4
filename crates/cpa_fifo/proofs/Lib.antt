pub mod FifoBoundLaws
pub mod QueueWalk
mod WorkedCases
