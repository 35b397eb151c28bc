pub mod Storing
pub mod Dealing
pub mod Ones
