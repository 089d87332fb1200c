pub mod Following
pub mod Carrying
pub mod Handing
