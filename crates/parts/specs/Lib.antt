pub mod Groups
pub mod Took
pub mod Records
pub mod Lists
pub mod Laws
