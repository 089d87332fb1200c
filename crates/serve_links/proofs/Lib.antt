pub mod Added
pub mod Linking
