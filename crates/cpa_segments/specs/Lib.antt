pub mod Calls
pub mod Tracking
pub mod Laws
pub mod Rows
pub mod Written
