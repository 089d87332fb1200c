pub mod Accusing
