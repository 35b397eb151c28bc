pub mod Stream
pub mod Piece
pub mod Within
pub mod Calls
pub mod Stretches
pub mod Made
