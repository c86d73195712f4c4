pub mod Accepted
pub mod Index
pub mod RecordIndex
pub mod Sources
pub mod ThreadIndex
