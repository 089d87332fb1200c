pub mod Storage
pub mod Tables
