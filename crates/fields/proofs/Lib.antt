pub mod Nexts
pub mod Ones
