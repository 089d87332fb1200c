pub mod Waiting
pub mod Line
pub mod Spans
pub mod Pins
pub mod Woven
