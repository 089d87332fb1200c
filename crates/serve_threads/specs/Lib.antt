pub mod Asking
pub mod Threads
pub mod Ending
pub mod Making
