pub mod Lines
pub mod Played
pub mod Hearing
pub mod Wires
pub mod Report
pub mod Shelves
