pub mod Orders
pub mod Placing
pub mod Laws
pub mod OrderText
