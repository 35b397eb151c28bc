pub mod Command
pub mod Heard
