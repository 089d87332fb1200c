pub mod Boundaries
pub mod Growing
pub mod Held
