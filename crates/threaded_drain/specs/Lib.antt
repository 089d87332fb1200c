pub mod Resting
pub mod Ending
