pub mod Made
pub mod Closing
pub mod Working
pub mod Left
pub mod Arriving
pub mod Crossing
