pub mod Callers
pub mod Tapes
