pub mod Calls
pub mod Demands
pub mod Interface
pub mod Pairs
pub mod Pieces
pub mod Public
pub mod Runs
pub mod Settled
