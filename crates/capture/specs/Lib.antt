pub mod Captured
pub mod Text
