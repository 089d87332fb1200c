pub mod Same
pub mod Bytes
pub mod Kept
pub mod Fresh
pub mod Heard
