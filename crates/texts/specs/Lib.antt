pub mod Text
pub mod Block
