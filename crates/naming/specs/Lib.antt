pub mod Finding
pub mod Records
pub mod Writing
