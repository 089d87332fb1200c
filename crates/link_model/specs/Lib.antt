pub mod Reading
pub mod Giving
pub mod Carrying
pub mod Leaving
