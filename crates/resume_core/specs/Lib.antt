pub mod Resumption
