pub mod Phases
pub mod Streams
pub mod Clocks
pub mod Known
pub mod Growth
pub mod Laws
