pub mod Step
pub mod Run
pub mod Stream
pub mod Calls
pub mod Demand
pub mod Damage
pub mod Place
pub mod Pass
