pub mod Lent
pub mod Ones
pub mod ReadBack
pub mod Places
