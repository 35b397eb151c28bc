pub mod Ones
pub mod Stored
