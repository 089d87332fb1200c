pub mod Causes
pub mod Links
pub mod Memory
pub mod MemoryLink
pub mod MemoryNet
pub mod Nets
pub mod Streams
