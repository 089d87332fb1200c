pub mod Callers
pub mod Rule
pub mod Seats
