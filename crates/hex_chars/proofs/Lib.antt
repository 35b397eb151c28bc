pub mod Laws
pub mod Scan
pub mod Bad
