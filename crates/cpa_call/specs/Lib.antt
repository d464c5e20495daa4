pub mod Answers
pub mod Ends
pub mod Lines
pub mod Plans
pub mod FaultTexts
pub mod Calls
pub mod TwoFiles
