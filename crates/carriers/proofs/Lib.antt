pub mod Items
pub mod Blocks
pub mod Alone
pub mod Moving
