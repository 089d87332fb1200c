pub mod Held
pub mod Laid
pub mod Stored
pub mod Marked
pub mod Blocks
pub mod Storage
pub mod Pinned
