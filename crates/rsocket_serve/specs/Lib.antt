pub mod Served
pub mod Came
