pub mod Lists
pub mod Puts
pub mod Writers
