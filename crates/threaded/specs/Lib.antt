pub mod Ran
pub mod Threads
