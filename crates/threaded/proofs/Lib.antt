pub mod Callers
pub mod Ended
pub mod Followed
pub mod Crossing
