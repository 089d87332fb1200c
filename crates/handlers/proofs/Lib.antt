pub mod Final
pub mod Finding
pub mod Numbers
