pub mod Spoken
pub mod Line
pub mod Setting
pub mod Scripted
pub mod Script
pub mod Words
