pub mod Serving
pub mod Carrying
pub mod Begun
pub mod Moves
