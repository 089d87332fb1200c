pub mod Lists
pub mod Lines
pub mod Plain
pub mod Whole
