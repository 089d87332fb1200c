pub mod Entries
pub mod Adding
pub mod Bytes
pub mod OwnEntries
pub mod Carried
pub mod Handing
pub mod Kept
pub mod Steps
