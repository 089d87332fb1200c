pub mod Tapes
pub mod Links
pub mod Serving
pub mod Knowing
