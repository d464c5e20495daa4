pub mod Adding
pub mod Chains
pub mod Draws
pub mod Laws
pub mod MadeSystems
pub mod MadeTraces
pub mod Seen
pub mod Texts
