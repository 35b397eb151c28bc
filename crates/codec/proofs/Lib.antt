pub mod Rows
pub mod RowPuts
pub mod Counts
pub mod Inverse
pub mod Sized
