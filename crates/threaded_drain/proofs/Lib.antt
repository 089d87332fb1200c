pub mod Good
pub mod Short
pub mod Drained
pub mod Going
