pub mod CleanLines
pub mod OneWay
pub mod Progress
pub mod Reading
pub mod Texts
pub mod Wrong
