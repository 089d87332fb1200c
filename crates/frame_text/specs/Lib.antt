pub mod Names
pub mod Words
pub mod Lines
pub mod Spelled
pub mod Fields
pub mod Reading
