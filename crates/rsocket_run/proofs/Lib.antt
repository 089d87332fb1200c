pub mod Moves
pub mod Whole
pub mod Reading
pub mod Right
pub mod Telling
pub mod Serving
