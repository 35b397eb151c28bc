pub mod Answered
pub mod Frame
pub mod Judge
pub mod Place
pub mod Write
