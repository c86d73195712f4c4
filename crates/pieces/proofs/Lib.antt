pub mod Fed
pub mod Filled
pub mod States
