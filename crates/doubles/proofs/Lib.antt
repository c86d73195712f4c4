pub mod Alone
pub mod Rule
pub mod Values
