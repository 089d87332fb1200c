pub mod Staying
pub mod Ended
pub mod StaysGood
pub mod Leaving
pub mod Opened
pub mod Fresh
pub mod Ending
pub mod Unopened
