pub mod Flat
pub mod Listing
pub mod Calls
pub mod Made
