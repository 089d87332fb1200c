pub mod Ending
pub mod Lists
pub mod Own
pub mod Places
pub mod Whole
