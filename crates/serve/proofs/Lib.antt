pub mod Counting
pub mod Came
pub mod Ended
pub mod Leaving
pub mod Over
pub mod PutBack
