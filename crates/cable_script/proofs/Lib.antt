mod Cuts
mod Spaced
mod Texts
mod Reading
mod OneLine
pub mod OneScript
pub mod Settings
