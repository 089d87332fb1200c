pub mod Credits
pub mod Beginning
pub mod Knowing
pub mod Standing
pub mod Requests
pub mod Granting
pub mod Taken
