pub mod Alike
pub mod Rule
pub mod Steps
