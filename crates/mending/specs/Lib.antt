pub mod Steps
pub mod Mending
pub mod Kept
