pub mod Cuts
pub mod Splits
pub mod Joins
pub mod Sizes
