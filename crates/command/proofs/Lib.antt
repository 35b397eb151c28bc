pub mod Ones
pub mod Forms
pub mod Numbers
