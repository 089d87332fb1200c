pub mod Words
pub mod Calls
pub mod Commands
pub mod Loads
pub mod Serves
pub mod Asked
