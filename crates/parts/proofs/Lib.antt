pub mod Ones
pub mod Alls
pub mod ByteRows
pub mod PutAs
pub mod Turns
