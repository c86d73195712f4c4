pub mod Lowest
pub mod Rows
pub mod Told
pub mod Lent
