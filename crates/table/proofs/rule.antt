pub mod Rules
pub mod Fine
pub mod New
