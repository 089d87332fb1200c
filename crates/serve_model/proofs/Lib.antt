pub mod Names
pub mod Counts
pub mod Owners
pub mod Order
pub mod Linked
pub mod Jobs
