pub mod Table
pub mod Rule
pub mod Changes
pub mod Laws
