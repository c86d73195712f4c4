pub mod Accepted
pub mod Finding
pub mod Named
pub mod ReadBack
pub mod Records
pub mod Rest
