pub mod List
pub mod Size
