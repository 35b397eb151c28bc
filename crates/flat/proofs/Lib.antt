pub mod Ones
pub mod Demand
pub mod Made
