pub mod Lease
pub mod Sum
