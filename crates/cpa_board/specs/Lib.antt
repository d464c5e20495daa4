pub mod Laws
pub mod Machine
pub mod Rule
pub mod Seats
