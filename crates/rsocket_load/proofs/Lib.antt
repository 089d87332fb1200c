pub mod Counts
pub mod Loading
