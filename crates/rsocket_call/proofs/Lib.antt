pub mod Saying
pub mod Shelf
pub mod Beginning
pub mod Steps
pub mod Unbegun
pub mod Ending
pub mod Coming
pub mod Telling
