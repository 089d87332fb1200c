pub mod Following
pub mod Client
pub mod Acting
pub mod Handing
pub mod Carrying
pub mod Answering
