pub mod Groups
pub mod Ways
pub mod Places
