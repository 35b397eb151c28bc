pub mod Answered
pub mod Judging
pub mod Changes
pub mod Exchanged
pub mod Steps
pub mod Round
pub mod Places
