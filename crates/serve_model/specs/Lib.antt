pub mod Names
pub mod Counts
pub mod Order
pub mod Links
