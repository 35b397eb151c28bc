pub mod Filled
pub mod Typed
pub mod Inverses
pub mod Lines
