pub mod Called
pub mod Made
pub mod Begun
pub mod Ended
