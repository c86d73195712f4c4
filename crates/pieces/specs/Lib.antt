pub mod Body
pub mod Fed
pub mod Pieces
pub mod Whole
