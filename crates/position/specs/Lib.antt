pub mod Boundaries
pub mod Position
