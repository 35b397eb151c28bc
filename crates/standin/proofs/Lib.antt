pub mod Short
pub mod Members
pub mod Filled
pub mod Replies
pub mod Silent
