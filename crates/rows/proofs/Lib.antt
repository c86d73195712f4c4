pub mod Lowest
pub mod Numbered
pub mod Rows
