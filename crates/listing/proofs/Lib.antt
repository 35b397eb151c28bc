pub mod Events
pub mod Parts
pub mod Streams
pub mod Calls
pub mod Stretches
pub mod Example
pub mod Made
