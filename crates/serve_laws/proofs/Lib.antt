pub mod Events
pub mod Taking
pub mod Tape
pub mod Rows
pub mod Served
pub mod Work
