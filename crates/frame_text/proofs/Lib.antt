pub mod Bytes
pub mod OneFrame
pub mod RightWords
pub mod Steps
pub mod Told
