pub mod Runs
pub mod Weaving
pub mod Pins
pub mod Ended
pub mod Spanned
pub mod Counted
pub mod Woven
pub mod Drawn
mod Kept
