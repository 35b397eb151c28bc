pub mod Copied
pub mod Read
pub mod Off
pub mod Asked
pub mod Records
