pub mod Takes
pub mod Fnf
pub mod Ordering
pub mod Links
pub mod Ending
pub mod Present
pub mod Standing
