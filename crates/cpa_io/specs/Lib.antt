pub mod Causes
pub mod Memory
pub mod Real
pub mod FaultTexts
