pub mod Joined
pub mod Columns
pub mod Slots
