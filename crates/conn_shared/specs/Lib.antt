pub mod Lines
pub mod Members
pub mod Calls
