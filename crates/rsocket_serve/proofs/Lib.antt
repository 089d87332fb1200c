pub mod Coming
pub mod Tapes
pub mod Telling
