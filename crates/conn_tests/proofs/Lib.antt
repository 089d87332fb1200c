pub mod Crossing
pub mod Joined
