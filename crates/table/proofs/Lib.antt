pub mod Twelve
pub mod Members
pub mod Asked
