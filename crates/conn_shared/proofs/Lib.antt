pub mod Lines
pub mod Called
pub mod Seated
pub mod Crossing
